use mathlib.Core.Path.{◌≡◌}
use lib.ListN.{drop}
use Rattle.definition.specs.Pattern.{no_class}
use Rattle.patterns.proofs.no_class.Given as goal

abbrev pub invariant-loop-i : goal.invariant-loop-i
invariant-loop-i l = no_class l.t ≡ no_class (drop l.i l.t)

use mathlib.Core.Path.{◌≡◌}
use lib.ListN.{get_or}
use Rattle.definition.specs.Tables.{word}
use Rattle.matching.specs.Bytes.{fits}
use Rattle.matching.proofs.fitting.Given as goal

abbrev pub invariant-loop-i : goal.invariant-loop-i
invariant-loop-i l = l.r ≡ word l.i 0 (λ j. fits l.t l.complement (get_or l.e j 0))

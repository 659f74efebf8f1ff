use mathlib.Core.Path.{◌≡◌}
use lib.ListN.{get_or}
use Rattle.definition.specs.Tables.{word}
use Rattle.chains.specs.Levels.{meets}
use Rattle.chains.proofs.before.Given as goal

abbrev pub invariant-loop-x : goal.invariant-loop-x
invariant-loop-x l = l.w ≡ word l.x 0 (λ y. meets (get_or l.rows y 0) l.set)

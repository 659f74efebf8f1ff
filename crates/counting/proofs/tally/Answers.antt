use native.Mathlib.Omega.{arith}
use Rattle.counting.proofs.TallyLaws.{tallying_start, tallying_next, tallying_end}
use Rattle.counting.proofs.tally.Goals as goal

pub loop-n-init : goal.loop-n-init
loop-n-init c = tallying_start _

pub loop-n-preserved : goal.loop-n-preserved
loop-n-preserved c = tallying_next _ _ _ _ c.loop-n.invariant (omega arith)

pub returns : goal.returns
returns c = tallying_end _ _ _ _ c.loop-n.invariant (omega arith)

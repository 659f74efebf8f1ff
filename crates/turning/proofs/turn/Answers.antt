use native.Mathlib.Omega.{arith}
use Rattle.turning.proofs.Turning.{turning_none, turning_one, turning_all}
use Rattle.turning.proofs.turn.Goals as goal

pub loop-w-init : goal.loop-w-init
loop-w-init c = turning_none _

pub loop-w-preserved : goal.loop-w-preserved
loop-w-preserved c = let L = c.loop-w in turning_one _ L.words L.w-index (omega arith) L.invariant _ c.turn_part.ensures

pub returns : goal.returns
returns c = turning_all _ _ c.loop-w.w-index (omega arith) c.loop-w.invariant

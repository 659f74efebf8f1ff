use native.Mathlib.Omega.{arith}
use Rattle.parts.proofs.InsertLaws.{carried_on, inserted}
use Rattle.parts.proofs.insert_at.Goals as goal

pub loop-w-preserved : goal.loop-w-preserved
loop-w-preserved g c = let L = c.loop-w in carried_on _ L.w-items L.w-index L.carried _ _ c.w-item.result (omega (arith, c.loop-w-test.true, L.auto.w-items)) L.invariant c.swap.ensures.x_after c.swap.ensures.y_after

pub returns : goal.returns
returns g c = let L = c.loop-w in inserted c.args.words.now c.args.p c.args.n c.args.v c.requires.0 c.requires.1 L.w-items L.w-index L.carried L.auto.w-items c.loop-w-test.false L.invariant

use native.Mathlib.Omega.{arith}
use Rattle.chains.proofs.Loops.{fill_none, fill_more, fill_all}
use Rattle.chains.proofs.levels.Goals as goal

pub loop-level-init : goal.loop-level-init
loop-level-init c = fill_none _ _ _ _ c.requires.1 c.set_bit-w.ensures

pub loop-level-preserved : goal.loop-level-preserved
loop-level-preserved c = let L = c.loop-level in
    fill_more _ _ L.level-index L.w _ L.near L.invariant (omega arith) c.before-w.ensures

pub returns : goal.returns
returns c = let L = c.loop-level in
    fill_all _ _ L.level-index _ _ L.invariant (omega arith)

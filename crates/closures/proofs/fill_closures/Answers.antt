use Prim.Native.Nat.{◌-◌}
use mathlib.Core.Path.{refl, ◌∙◌}
use native.Mathlib.Omega.{arith}
use Rattle.closures.proofs.Fills.{fill_none, fill_next}
use Rattle.closures.proofs.fill_closures.Goals as goal

pub loop-k-init : goal.loop-k-init
loop-k-init c = (refl, refl)

pub fill_word-requires : goal.fill_word-requires
fill_word-requires c = omega arith

pub overflow_step-k : goal.overflow_step-k
overflow_step-k c = omega arith

pub loop-k-smaller : goal.loop-k-smaller
loop-k-smaller c = omega arith

pub loop-k-preserved : goal.loop-k-preserved
loop-k-preserved c = let a = c.args in
    let L = c.loop-k in
    (omega arith, fill_next a.firsts.now a.vars.now a.u a.nodes.now a.hi L.k L.store _ c.loop-k-test.true c.fill_word.ensures ∙ L.invariant.1)

pub shape_of-store : goal.shape_of-store
shape_of-store c = omega arith

pub returns : goal.returns
returns c = let a = c.args in
    let L = c.loop-k in
    fill_none a.firsts.now a.vars.now a.u a.nodes.now (a.hi - L.k) L.k L.store (omega (arith, c.loop-k-test.false)) ∙ L.invariant.1

use native.Mathlib.Omega.{arith}
use Prim.Native.Nat.{suc, ◌<◌}
use lib.ListN.{length, get_or}
use Rattle.matching.proofs.RowLaws.{pass_none, pass_step, pass_all, row_ends}
use Rattle.matching.proofs.all_turns.Goals as goal

pub loop-k-init : goal.loop-k-init
loop-k-init c = λ o e t p ys q b. pass_none e t.short p c.args.set b

pub loop-k-preserved : goal.loop-k-preserved
loop-k-preserved c =
    λ o e t p ys q b.
    let h : c.loop-k.k < suc (length e) = (let l = t.long in omega (arith, l)) in
    pass_step e t.short p c.args.set c.loop-k.k c.loop-k.r (get_or c.args.table.now c.loop-k.k 0) c.with-r.result c.test_bit.result h (row_ends t p ys c.loop-k.k q h) c.test_bit.ensures c.with-r.ensures (c.loop-k.invariant o e t p ys q b)

pub returns : goal.returns
returns c = λ o e t. record { ends = λ p ys q b. pass_all e t.short p c.args.set c.loop-k.k c.loop-k.r (let l = t.long in omega (arith, l)) (c.loop-k.invariant o e t p ys q b) }

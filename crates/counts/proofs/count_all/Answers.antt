use Prim.Native.Nat.{◌%◌}
use mathlib.Core.Path.{refl}
use native.Mathlib.Omega.{arith}
use lib.ListN.{get_or, replicate}
use Rattle.counts.proofs.Ones.{few_words, tallying_next, tallying_end}
use Rattle.counts.proofs.count_all.Goals as goal

pub overflow_add-off : goal.overflow_add-off
overflow_add-off c = let l = c.loop-i in
    omega (arith, l.invariant.small, c.table_words-off.ensures, few_words c.args.u (get_or c.args.relations.now l.i 0 % 4) (omega arith) (omega arith), c.requires)

pub loop-i-preserved : goal.loop-i-preserved
loop-i-preserved c = let l = c.loop-i in
    rw c.table_words-off.ensures (tallying_next c.args.store.now c.args.u c.args.relations.now (replicate 16 0) l.off l.i l.counts l.invariant (omega arith) (omega arith) _ refl (omega arith) _ c.recount.ensures)

pub returns : goal.returns
returns c = let l = c.loop-i in
    tallying_end c.args.store.now c.args.u c.args.relations.now (replicate 16 0) l.off l.i l.counts l.invariant (omega arith)

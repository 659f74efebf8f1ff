use native.Mathlib.Omega.{arith}
use lib.ListN.{get_or}
use Rattle.layout.proofs.SizeLaws.{few_words, laying_start, laying_next, laying_end}
use Rattle.layout.proofs.lay_tables.Goals as goal

pub loop-i-init : goal.loop-i-init
loop-i-init c = laying_start c.args.u c.args.relations.now _

pub overflow_add-next : goal.overflow_add-next
overflow_add-next c = let l = c.loop-i in omega (arith, l.invariant.small, c.table_words-next.ensures, few_words c.args.u (get_or c.args.relations.now l.i 0) c.requires.1)

pub loop-i-preserved : goal.loop-i-preserved
loop-i-preserved c = let l = c.loop-i in rw c.table_words-next.ensures (laying_next c.args.u c.args.relations.now l.firsts l.next l.i l.invariant c.requires.1 (omega arith) (omega arith))

pub returns : goal.returns
returns c = let l = c.loop-i in
    let e = laying_end c.args.u c.args.relations.now l.firsts l.next l.i l.invariant (omega arith) (omega arith) in
    record { value = e.0; firsts = e.1; small = omega (arith, l.invariant.small) }

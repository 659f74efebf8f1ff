use native.Mathlib.Omega.{arith}
use lib.ListN.{get_or}
use Rattle.layout.proofs.SizeLaws.{few_words}
use Rattle.layout.proofs.RecordLaws.{recording_start, recording_next, recording_end}
use Rattle.layout.proofs.records.Goals as goal

pub loop-i-init : goal.loop-i-init
loop-i-init c = recording_start c.args.facts.now c.args.query.now c.args.u c.args.relations.now c.args.sizes

pub overflow_add-next : goal.overflow_add-next
overflow_add-next c = let l = c.loop-i in omega (arith, l.invariant.small, c.table_words-next.ensures, few_words c.args.u (get_or c.args.relations.now l.i 0) c.requires.1)

pub loop-i-preserved : goal.loop-i-preserved
loop-i-preserved c = let l = c.loop-i in rw (c.table_words-next.ensures, c.record_of.ensures) (recording_next c.args.facts.now c.args.query.now c.args.u c.args.relations.now c.args.sizes l.rs l.next l.i l.invariant c.requires.1 (omega arith) (omega arith))

pub returns : goal.returns
returns c = let l = c.loop-i in recording_end c.args.facts.now c.args.query.now c.args.u c.args.relations.now c.args.sizes l.rs l.next l.i l.invariant (omega arith) (omega arith)

use native.Mathlib.Omega.{arith}
use Rattle.layout.proofs.SizeLaws.{seeking_start, seeking_next, seeking_end}
use Rattle.layout.proofs.largest.Goals as goal

pub loop-w-init : goal.loop-w-init
loop-w-init c = seeking_start c.args.u c.args.relations.now

pub loop-w-preserved : goal.loop-w-preserved
loop-w-preserved c = let l = c.loop-w in
    rw (c.max-most.ensures, c.table_words.ensures) (seeking_next c.args.u c.args.relations.now l.most l.w-index l.invariant (omega arith) c.requires.1)

pub returns : goal.returns
returns c = let l = c.loop-w in record { value = seeking_end c.args.u c.args.relations.now l.most l.w-index l.invariant (omega arith); small = l.invariant.small }

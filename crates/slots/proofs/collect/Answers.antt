use Rattle.slots.proofs.Arrays.{going_on, going_end}
use Rattle.slots.proofs.collect.Goals as goal

pub loop-w-preserved : goal.loop-w-preserved
loop-w-preserved c = let l = c.loop-w in
    going_on _ _ _ _ l.w-index l.f c.add_word-f.result c.loop-w-test.true c.add_word-f.ensures l.invariant

pub returns : goal.returns
returns c = let l = c.loop-w in
    going_end _ _ _ _ l.w-index l.f c.loop-w-test.false l.invariant

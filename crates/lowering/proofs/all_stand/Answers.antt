use Rattle.lowering.proofs.Filling.{stand_start, stand_on, stand_no, stand_end}
use Rattle.lowering.proofs.all_stand.Goals as goal

pub loop-i-init : goal.loop-i-init
loop-i-init c = stand_start _ _ _ _ _

pub returns-then-not-may_stand : goal.returns-then-not-may_stand
returns-then-not-may_stand c = let l = c.loop-i in stand_no _ _ _ _ _ l.i l.invariant _ _ c.loop-i-test.true c.word_at.ensures c.may_stand.ensures c.if-not-may_stand.true-raw

pub loop-i-preserved : goal.loop-i-preserved
loop-i-preserved c = let l = c.loop-i in stand_on _ _ _ _ _ l.i l.invariant _ _ c.loop-i-test.true c.word_at.ensures c.may_stand.ensures c.if-not-may_stand.false-raw

pub returns : goal.returns
returns c = let l = c.loop-i in stand_end _ _ _ _ _ l.i l.invariant c.loop-i-test.false

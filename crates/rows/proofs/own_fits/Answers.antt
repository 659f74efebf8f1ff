use Rattle.rows.proofs.Loops.{own_test, own_range, own_assign, own_other}
use Rattle.free.specs.Words.{at}
use Rattle.slots.specs.Slots.{digit_at}
use Rattle.rows.proofs.own_fits.Goals as goal

pub returns-then-c-eq34 : goal.returns-then-c-eq34
returns-then-c-eq34 c = let a = c.args in
    own_test (at a.words.now) (digit_at a.f a.ids.now) (at a.fr.now) a.k a.w _ c.word_before-v.ensures _ c.count.ensures c.if-c-eq34.true

pub returns-then-c-eq6 : goal.returns-then-c-eq6
returns-then-c-eq6 c = let a = c.args in
    own_range (at a.words.now) (digit_at a.f a.ids.now) (at a.fr.now) a.k a.w _ c.word_before-v.ensures _ c.count-then-c-eq6.ensures c.if-c-eq34.false c.if-c-eq6.true

pub returns-then-c-eq33 : goal.returns-then-c-eq33
returns-then-c-eq33 c = let a = c.args in
    own_assign (at a.words.now) (digit_at a.f a.ids.now) (at a.fr.now) a.k a.w _ c.word_before-v.ensures _ _ c.if-c-eq34.false c.if-c-eq6.false c.if-c-eq33.true c.left.ensures.0 c.same_digits.ensures

pub returns : goal.returns
returns c = let a = c.args in
    own_other (at a.words.now) (digit_at a.f a.ids.now) (at a.fr.now) a.k a.w _ c.word_before-v.ensures c.if-c-eq34.false c.if-c-eq6.false c.if-c-eq33.false

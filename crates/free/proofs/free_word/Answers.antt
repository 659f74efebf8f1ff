use Rattle.free.specs.Words.{free_word}
use mathlib.Core.Path.{refl, sym, ◌∙◌}
use borrow.Author.Tests.{eq-eqb, ne_eqb, lt-ltb, le-ltb}
use native.Mathlib.Omega.{arith}
use Rattle.free.proofs.free_word.Goals as goal

pub returns-then-is_leaf : goal.returns-then-is_leaf
unfolding free_word
returns-then-is_leaf c = (rw (← c.word_at-w.ensures) (simp (sym c.is_leaf.ensures ∙ c.if-is_leaf.true) (c.add.ensures.0 ∙ rw (c.digit_at.ensures.0, c.terms_before.ensures.0) refl)), c.add.ensures.1)

pub returns-then-c-lt10 : goal.returns-then-c-lt10
unfolding free_word
returns-then-c-lt10 c = (rw (← c.word_at-w.ensures) (simp (sym c.is_leaf.ensures ∙ c.if-is_leaf.false, lt-ltb _ _ c.if-c-lt10.true)), omega arith)

pub returns-then-c-lt14 : goal.returns-then-c-lt14
unfolding free_word
returns-then-c-lt14 c = (rw (← c.word_at-w.ensures) (simp (sym c.is_leaf.ensures ∙ c.if-is_leaf.false, le-ltb _ _ c.if-c-lt10.false, lt-ltb _ _ c.if-c-lt14.true) c.terms_before-then-c-lt14.ensures.0), c.terms_before-then-c-lt14.ensures.1)

pub returns-then-c-eq23 : goal.returns-then-c-eq23
unfolding free_word
returns-then-c-eq23 c = (rw (← c.word_at-w.ensures) (simp (sym c.is_leaf.ensures ∙ c.if-is_leaf.false, le-ltb _ _ c.if-c-lt10.false, le-ltb _ _ c.if-c-lt14.false, eq-eqb _ _ c.if-c-eq23.true) c.terms_before-then-c-eq23.ensures.0), c.terms_before-then-c-eq23.ensures.1)

pub returns : goal.returns
unfolding free_word
returns c = (rw (← c.word_at-w.ensures) (simp (sym c.is_leaf.ensures ∙ c.if-is_leaf.false, le-ltb _ _ c.if-c-lt10.false, le-ltb _ _ c.if-c-lt14.false, ne_eqb _ _ c.if-c-eq23.false) c.operator.ensures.0), c.operator.ensures.1)

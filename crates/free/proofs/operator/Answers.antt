use Rattle.free.specs.Words.{operator}
use mathlib.Core.Path.{refl, ◌∙◌}
use borrow.Author.Tests.{eq-eqb, ne_eqb, lt-ltb, le-ltb}
use native.Mathlib.Omega.{arith}
use Rattle.free.proofs.operator.Goals as goal

pub returns-then-c-eq14 : goal.returns-then-c-eq14
unfolding operator
returns-then-c-eq14 c = (simp (eq-eqb _ _ c.if-c-eq14.true) c.lower.ensures.0, c.lower.ensures.1)

pub returns-then-c-lt19 : goal.returns-then-c-lt19
unfolding operator
returns-then-c-lt19 c = (simp (ne_eqb _ _ c.if-c-eq14.false, lt-ltb _ _ c.if-c-lt19.true) (c.join.ensures.0 ∙ rw (c.lower-then-c-lt19-2.ensures.0, c.lower-then-c-lt19.ensures.0) refl), c.join.ensures.1)

pub returns-then-c-lt21 : goal.returns-then-c-lt21
unfolding operator
returns-then-c-lt21 c = (simp (ne_eqb _ _ c.if-c-eq14.false, le-ltb _ _ c.if-c-lt19.false, lt-ltb _ _ c.if-c-lt21.true) (c.remove.ensures.0 ∙ rw (c.digit_at.ensures.0, c.word_at.ensures, c.lower-then-c-lt21.ensures.0) refl), c.remove.ensures.1)

pub returns-then-c-eq21 : goal.returns-then-c-eq21
unfolding operator
returns-then-c-eq21 c = (simp (ne_eqb _ _ c.if-c-eq14.false, le-ltb _ _ c.if-c-lt19.false, le-ltb _ _ c.if-c-lt21.false, eq-eqb _ _ c.if-c-eq21.true) c.lower-then-c-eq21.ensures.0, c.lower-then-c-eq21.ensures.1)

pub returns : goal.returns
unfolding operator
returns c = (simp (ne_eqb _ _ c.if-c-eq14.false, le-ltb _ _ c.if-c-lt19.false, le-ltb _ _ c.if-c-lt21.false, ne_eqb _ _ c.if-c-eq21.false), omega arith)

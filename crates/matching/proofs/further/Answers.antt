use native.Mathlib.Omega.{arith}
use borrow.Author.Tests.{eq-eqb, ne_eqb}
use Rattle.matching.specs.Images.{further}
use Rattle.matching.proofs.further.Goals as goal

pub returns-then-b-eq42 : goal.returns-then-b-eq42
unfolding further
returns-then-b-eq42 c = simp (eq-eqb _ _ c.if-b-eq42.true)

pub returns-then-b-eq43 : goal.returns-then-b-eq43
unfolding further
returns-then-b-eq43 c = simp (ne_eqb _ _ c.if-b-eq42.false, eq-eqb _ _ c.if-b-eq43.true)

pub returns-then-b-eq63 : goal.returns-then-b-eq63
unfolding further
returns-then-b-eq63 c = simp (ne_eqb _ _ c.if-b-eq42.false, ne_eqb _ _ c.if-b-eq43.false, eq-eqb _ _ c.if-b-eq63.true)

pub returns-then-b-eq123 : goal.returns-then-b-eq123
unfolding further
returns-then-b-eq123 c = simp (ne_eqb _ _ c.if-b-eq42.false, ne_eqb _ _ c.if-b-eq43.false, ne_eqb _ _ c.if-b-eq63.false, eq-eqb _ _ c.if-b-eq123.true) (omega (arith, c.digit-low.ensures, c.digit-high.ensures, c.saturating_sub.ensures))

pub returns : goal.returns
unfolding further
returns c = simp (ne_eqb _ _ c.if-b-eq42.false, ne_eqb _ _ c.if-b-eq43.false, ne_eqb _ _ c.if-b-eq63.false, ne_eqb _ _ c.if-b-eq123.false)

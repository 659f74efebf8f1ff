use mathlib.Core.Path.{refl, ◌∙◌}
use native.Mathlib.Omega.{arith}
use borrow.Author.Tests.{eq-eqb, ne_eqb, lt-ltb, le-ltb}
use Rattle.lowering.specs.Lowering.{p_field}
use Rattle.lowering.proofs.p_field.Goals as goal

pub returns-then-k-lt4 : goal.returns-then-k-lt4
unfolding p_field
returns-then-k-lt4 c = (rw (lt-ltb _ _ c.if-k-lt4.true, c.word_at.ensures) refl, omega arith)

pub returns-then-k-lt8 : goal.returns-then-k-lt8
unfolding p_field
returns-then-k-lt8 c = (rw (le-ltb _ _ c.if-k-lt4.false, lt-ltb _ _ c.if-k-lt8.true) (c.depth_of.ensures.0 ∙ rw c.word_at-then-k-lt8.ensures refl), c.depth_of.ensures.1)

pub returns-then-k-eq9 : goal.returns-then-k-eq9
unfolding p_field
returns-then-k-eq9 c = (rw (le-ltb _ _ c.if-k-lt4.false, le-ltb _ _ c.if-k-lt8.false, eq-eqb _ _ c.if-k-eq9.true) refl, omega arith)

pub returns-then-k-lt42 : goal.returns-then-k-lt42
unfolding p_field
returns-then-k-lt42 c = (rw (le-ltb _ _ c.if-k-lt4.false, le-ltb _ _ c.if-k-lt8.false, ne_eqb _ _ c.if-k-eq9.false, lt-ltb _ _ c.if-k-lt42.true) c.node_p.ensures.0, c.node_p.ensures.1)

pub returns-then-k-lt44 : goal.returns-then-k-lt44
unfolding p_field
returns-then-k-lt44 c = (rw (le-ltb _ _ c.if-k-lt4.false, le-ltb _ _ c.if-k-lt8.false, ne_eqb _ _ c.if-k-eq9.false, le-ltb _ _ c.if-k-lt42.false, lt-ltb _ _ c.if-k-lt44.true, c.word_at-then-k-lt44.ensures) refl, omega arith)

pub returns : goal.returns
unfolding p_field
returns c = (rw (le-ltb _ _ c.if-k-lt4.false, le-ltb _ _ c.if-k-lt8.false, ne_eqb _ _ c.if-k-eq9.false, le-ltb _ _ c.if-k-lt42.false, le-ltb _ _ c.if-k-lt44.false) (rw (c.start.ensures.0, c.word_at-2.ensures) refl), omega arith)

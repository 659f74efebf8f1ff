use mathlib.Core.Path.{refl, ◌∙◌}
use native.Mathlib.Omega.{arith}
use borrow.Author.Tests.{ne_eqb}
use Rattle.lowering.specs.Lowering.{count_field}
use Rattle.lowering.proofs.Filling.{count_small}
use Rattle.lowering.proofs.count_field.Goals as goal

pub returns-in-10 : goal.returns-in-10
unfolding count_field
returns-in-10 c = (rw c.in-10.is refl, omega arith)

pub returns-in-33 : goal.returns-in-33
unfolding count_field
returns-in-33 c = (rw c.in-33.is refl, omega arith)

pub returns-in-23 : goal.returns-in-23
unfolding count_field
returns-in-23 c = (rw c.in-23.is (c.term_byte.ensures.0 ∙ rw c.word_at.ensures refl), c.term_byte.ensures.1)

pub returns-in-30 : goal.returns-in-30
unfolding count_field
returns-in-30 c = (rw c.in-30.is (c.count.ensures ∙ rw c.word_before.ensures refl), omega (arith, c.count.ensures, count_small c.word_before.result))

pub returns-in_default : goal.returns-in_default
unfolding count_field
returns-in_default c = (rw (ne_eqb _ _ c.in_default.in_default-own.rest.0.0.0.1, ne_eqb _ _ c.in_default.in_default-own.rest.0.0.1, ne_eqb _ _ c.in_default.in_default-own.rest.0.1, ne_eqb _ _ c.in_default.in_default-own.rest.1) refl, omega arith)

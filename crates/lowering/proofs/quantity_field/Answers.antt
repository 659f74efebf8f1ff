use mathlib.Core.Path.{refl, ◌∙◌}
use native.Mathlib.Omega.{arith}
use borrow.Author.Tests.{ne_eqb}
use Rattle.lowering.specs.Lowering.{quantity_field}
use Rattle.lowering.proofs.quantity_field.Goals as goal

pub returns-in-22 : goal.returns-in-22
unfolding quantity_field
returns-in-22 c = (rw c.in-22.is (c.comparison_field.ensures.0 ∙ rw (c.word_at-in-22.ensures, c.word_at.ensures) refl), c.comparison_field.ensures.1)

pub returns-in-24 : goal.returns-in-24
unfolding quantity_field
returns-in-24 c = (rw c.in-24.is (c.comparison_field-in-24.ensures.0 ∙ rw c.word_at-in-24.ensures refl), c.comparison_field-in-24.ensures.1)

pub returns-in-25 : goal.returns-in-25
unfolding quantity_field
returns-in-25 c = (rw c.in-25.is c.number_field.ensures.0, c.number_field.ensures.1)

pub returns-in-28 : goal.returns-in-28
unfolding quantity_field
returns-in-28 c = (rw c.in-28.is c.comparison_field-in-28.ensures.0, c.comparison_field-in-28.ensures.1)

pub returns-in_default : goal.returns-in_default
unfolding quantity_field
returns-in_default c = (rw (ne_eqb _ _ c.in_default.in_default-own.rest.0.0.0.1, ne_eqb _ _ c.in_default.in_default-own.rest.0.0.1, ne_eqb _ _ c.in_default.in_default-own.rest.0.1, ne_eqb _ _ c.in_default.in_default-own.rest.1) refl, omega arith)

use mathlib.Core.Path.{refl, ◌∙◌}
use borrow.Author.Tests.{ne_eqb}
use Rattle.lowering.specs.Lowering.{token_values, expression_field}
use Rattle.lowering.proofs.expression_field.Goals as goal

pub returns-in-10 : goal.returns-in-10
unfolding expression_field
returns-in-10 c = (rw c.in-10.is c.operands_at.ensures.0, c.operands_at.ensures.1)

pub returns-in-13 : goal.returns-in-13
unfolding expression_field
returns-in-13 c = (rw c.in-13.is c.operands_at-in-13.ensures.0, c.operands_at-in-13.ensures.1)

pub returns-in-21 : goal.returns-in-21
unfolding expression_field
returns-in-21 c = (rw c.in-21.is (c.closure_field.ensures.0 ∙ rw c.word_at.ensures refl), c.closure_field.ensures.1)

pub returns-in-23 : goal.returns-in-23
unfolding expression_field
returns-in-23 c = (rw c.in-23.is c.half_field.ensures.0, c.half_field.ensures.1)

pub returns-in_default : goal.returns-in_default
unfolding expression_field token_values
returns-in_default c = (rw (ne_eqb _ _ c.in_default.in_default-own.rest.0.0.0.1, ne_eqb _ _ c.in_default.in_default-own.rest.0.0.1, ne_eqb _ _ c.in_default.in_default-own.rest.0.1, ne_eqb _ _ c.in_default.in_default-own.rest.1) c.quantity_field.ensures.0, c.quantity_field.ensures.1)

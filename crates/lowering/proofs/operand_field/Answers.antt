use mathlib.Core.Path.{refl, ◌∙◌}
use native.Mathlib.Omega.{arith}
use borrow.Author.Tests.{ne_eqb}
use Rattle.lowering.specs.Lowering.{operand_field}
use Rattle.lowering.proofs.operand_field.Goals as goal

pub returns-in-6 : goal.returns-in-6
unfolding operand_field
returns-in-6 c = (rw c.in-6.is (c.range_field.ensures.0 ∙ rw c.word_before.ensures refl), c.range_field.ensures.1)

pub returns-in-33 : goal.returns-in-33
unfolding operand_field
returns-in-33 c = (rw c.in-33.is c.operands_at.ensures.0, c.operands_at.ensures.1)

pub returns-in-30 : goal.returns-in-30
unfolding operand_field
returns-in-30 c = (rw c.in-30.is (c.slots_of.ensures.0 ∙ rw c.word_before-in-30.ensures refl), c.slots_of.ensures.1)

pub returns-in-44 : goal.returns-in-44
unfolding operand_field
returns-in-44 c = (rw c.in-44.is (rw c.word_at.ensures refl), omega arith)

pub returns-in_default : goal.returns-in_default
unfolding operand_field
returns-in_default c = (rw (ne_eqb _ _ c.in_default.in_default-own.rest.0.0.0.1, ne_eqb _ _ c.in_default.in_default-own.rest.0.0.1, ne_eqb _ _ c.in_default.in_default-own.rest.0.1, ne_eqb _ _ c.in_default.in_default-own.rest.1) c.expression_field.ensures.0, c.expression_field.ensures.1)

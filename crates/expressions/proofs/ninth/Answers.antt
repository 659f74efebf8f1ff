use Rattle.expressions.specs.Operators.{a_ninth, no_ninth}
use Rattle.expressions.proofs.ninth.Goals as goal

pub returns-then-begins_quantity : goal.returns-then-begins_quantity
returns-then-begins_quantity c = a_ninth (rw c.if-begins_quantity.true at c.begins_quantity.ensures)

pub returns-else-begins_quantity : goal.returns-else-begins_quantity
returns-else-begins_quantity c = no_ninth (rw c.if-begins_quantity.false at c.begins_quantity.ensures)

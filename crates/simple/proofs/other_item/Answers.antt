use Rattle.simple.specs.Statements.{another}
use Rattle.simple.proofs.other_item.Goals as goal

pub quantity_item-requires : goal.quantity_item-requires
quantity_item-requires c = (rw c.if-begins_quantity.true at c.begins_quantity.ensures, c.requires.1)

pub expression_item-requires : goal.expression_item-requires
expression_item-requires c = (another c.requires.0 (rw c.if-begins_quantity.false at c.begins_quantity.ensures), c.requires.1)

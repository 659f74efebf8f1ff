use native.Mathlib.Omega.{arith}
use Rattle.simple.proofs.ItemLaws.{item_room, plain_item}
use Rattle.words.specs.Fields.{ROWS}
use Rattle.simple.proofs.expression_item.Goals as goal

pub close_item-requires : goal.close_item-requires
close_item-requires c = item_room ROWS c.comparison-a.ensures (omega arith) (omega arith) (omega arith) (omega arith) (omega arith)

pub returns : goal.returns
returns c = plain_item c.requires.0 c.comparison-a.ensures c.close_item.ensures

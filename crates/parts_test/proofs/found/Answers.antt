use borrow.Author.Rules.{rules}
use Rattle.definition.specs.Everything.{everything}
use Rattle.parts.specs.Packed.{text_of}
use Rattle.parts.specs.Entries.{index}
use Rattle.parts_test.proofs.found.Goals as goal

pub finds-requires : goal.finds-requires
unfolding everything text_of index
finds-requires c = search rules

pub finds-requires-2 : goal.finds-requires-2
unfolding everything text_of index
finds-requires-2 c = search rules

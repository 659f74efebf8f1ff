use borrow.Author.Rules.{rules}
use Rattle.definition.specs.Everything.{everything}
use Rattle.parts.specs.Packed.{text_of}
use Rattle.parts.specs.Entries.{enter, quoted_too}
use Rattle.parts_test.proofs.sets.Goals as goal

pub enters-requires : goal.enters-requires
unfolding everything text_of enter quoted_too
enters-requires c = search rules

pub enters-requires-2 : goal.enters-requires-2
unfolding everything text_of enter quoted_too
enters-requires-2 c = search rules

pub enters-requires-3 : goal.enters-requires-3
unfolding everything text_of enter quoted_too
enters-requires-3 c = search rules

pub enters-requires-4 : goal.enters-requires-4
unfolding everything text_of enter quoted_too
enters-requires-4 c = search rules

pub enters-requires-5 : goal.enters-requires-5
unfolding everything text_of enter quoted_too
enters-requires-5 c = search rules

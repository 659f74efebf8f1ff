use borrow.Author.Rules.{rules}
use borrow.Author.Tests.{eq-eqb}
use Rattle.definition.specs.Everything.{everything}
use Rattle.parts.specs.Packed.{text_of}
use Rattle.parts_test.proofs.numbers.Goals as goal

pub expect-requires : goal.expect-requires
unfolding everything text_of
expect-requires c = eq-eqb _ _ c.packed.ensures

pub expect-requires-2 : goal.expect-requires-2
unfolding everything text_of
expect-requires-2 c = eq-eqb _ _ c.packed-2.ensures

pub expect-requires-3 : goal.expect-requires-3
unfolding everything text_of
expect-requires-3 c = eq-eqb _ _ c.packed-3.ensures

pub spells-requires : goal.spells-requires
unfolding everything text_of
spells-requires c = search rules

pub spells-requires-2 : goal.spells-requires-2
unfolding everything text_of
spells-requires-2 c = search rules

pub spells-requires-3 : goal.spells-requires-3
unfolding everything text_of
spells-requires-3 c = search rules

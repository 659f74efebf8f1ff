use borrow.Author.Tests.{eq-eqb}
use mathlib.Core.Path.{◌∙◌}
use Rattle.definition.specs.Everything.{everything}
use Rattle.parts_test.proofs.finds.Goals as goal

pub expect-requires : goal.expect-requires
unfolding everything
expect-requires c = eq-eqb _ _ (c.index_of.ensures.value ∙ c.requires)

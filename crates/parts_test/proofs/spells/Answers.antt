use mathlib.Core.Path.{◌∙◌}
use Rattle.definition.specs.Everything.{everything}
use Rattle.parts_test.proofs.spells.Goals as goal

pub expect-requires : goal.expect-requires
unfolding everything
expect-requires c = c.same.ensures.1 (c.text_of.ensures ∙ c.requires)

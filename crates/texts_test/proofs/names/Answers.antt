use mathlib.Core.Path.{◌∙◌}
use Rattle.texts_test.proofs.Truths.{equal}
use Rattle.texts_test.proofs.names.Goals as goal

pub expect-requires : goal.expect-requires
expect-requires c = equal (c.is_name.ensures ∙ c.requires)

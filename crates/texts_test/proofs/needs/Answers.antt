use mathlib.Core.Path.{◌∙◌}
use Rattle.texts_test.proofs.Truths.{equal}
use Rattle.texts_test.proofs.needs.Goals as goal

pub expect-requires : goal.expect-requires
expect-requires c = equal (c.needs_quotes.ensures ∙ c.requires)

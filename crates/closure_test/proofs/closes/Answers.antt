use mathlib.Core.Path.{◌∙◌}
use Rattle.closure_test.proofs.closes.Goals as goal

pub expect-requires : goal.expect-requires
expect-requires c = c.same_words.ensures.1 (c.close.ensures ∙ c.requires.rows_value)

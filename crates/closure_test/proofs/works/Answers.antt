use mathlib.Core.Path.{◌∙◌}
use Rattle.closure_test.proofs.works.Goals as goal

pub expect-requires : goal.expect-requires
expect-requires c = c.same_words.ensures.1 (c.work_nodes.ensures.table ∙ c.requires.rows_value)

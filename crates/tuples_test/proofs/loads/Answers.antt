use mathlib.Core.Path.{◌∙◌}
use Rattle.tuples_test.proofs.loads.Goals as goal

pub expect-requires : goal.expect-requires
expect-requires c = c.same_words.ensures.1 (c.load.ensures ∙ c.requires.t_value)

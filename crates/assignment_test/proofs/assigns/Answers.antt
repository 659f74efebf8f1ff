use mathlib.Core.Path.{◌∙◌}
use Rattle.assignment_test.proofs.assigns.Goals as goal

pub expect-requires : goal.expect-requires
expect-requires c = c.same_words.ensures.1 (c.assign.ensures ∙ c.requires.len_value)

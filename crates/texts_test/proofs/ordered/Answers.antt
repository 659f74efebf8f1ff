use borrow.Author.Tests.{eq-eqb}
use mathlib.Core.Path.{ap, ◌∙◌}
use Rattle.texts_test.specs.Ranks.{rank_of}
use Rattle.texts_test.proofs.Truths.{equal}
use Rattle.texts_test.proofs.ordered.Goals as goal

pub expect-requires : goal.expect-requires
expect-requires c = eq-eqb _ _ (c.rank.ensures ∙ ap rank_of c.compare.ensures ∙ c.requires.0)

pub expect-requires-2 : goal.expect-requires-2
expect-requires-2 c = equal (c.same.ensures ∙ c.requires.1)

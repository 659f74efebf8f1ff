use borrow.Author.Tests.{eq-eqb}
use mathlib.Core.Path.{ap, ◌∙◌}
use Rattle.definition.specs.Calls.{Part}
use Rattle.element_test.proofs.has_text.Goals as goal

pub expect-requires : goal.expect-requires
expect-requires c = eq-eqb _ _ (ap (λ (p : Part). p.text) c.word_of.ensures.part ∙ c.requires)

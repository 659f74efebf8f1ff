use mathlib.Core.Path.{ap, ◌∙◌}
use Rattle.definition.specs.Text.{Text}
use Rattle.parts.specs.Entries.{position, index}
use Rattle.parts.proofs.index_of.Goals as goal

pub returns : goal.returns
unfolding index
returns c = let a = c.args in
    record { value = c.position_of.ensures.value ∙ ap (λ (t : Text). position a.facts.now a.query.now t a.parts.now) c.text_of.ensures; within = c.position_of.ensures.within }

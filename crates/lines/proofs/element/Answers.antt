use mathlib.Core.Path.{ap, ◌∙◌}
use Rattle.parts.specs.Packed.{text_of}
use Rattle.lines.proofs.element.Goals as goal

pub returns : goal.returns
returns c = c.text_of.ensures ∙ ap (text_of c.args.facts.now c.args.query.now) c.place_at.ensures

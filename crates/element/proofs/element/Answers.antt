use mathlib.Core.Path.{ap, ◌∙◌}
use Rattle.definition.specs.Calls.{part_text}
use Rattle.element.specs.Addresses.{address}
use Rattle.element.proofs.element.Goals as goal

pub returns : goal.returns
returns c = let e = c.word_of.ensures.part in record { text = c.part_at.ensures.text ∙ ap (part_text c.args.facts.now c.args.query.now) e; place = c.part_at.ensures.place ∙ ap (address c.args.facts.ref_ptr c.args.query.ref_ptr) e }

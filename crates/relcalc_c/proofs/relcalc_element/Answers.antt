use mathlib.Core.Path.{ap}
use Rattle.fields.specs.Fields.{part_fields}
use Rattle.relcalc_c.proofs.relcalc_element.Goals as goal

pub returns : goal.returns
returns c = rw c.part_fields.ensures (ap part_fields c.word_of.ensures.part)

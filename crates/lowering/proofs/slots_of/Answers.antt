use mathlib.Core.Path.{◌∙◌, refl}
use Rattle.lowering.specs.Lowering.{slots_of}
use Rattle.lowering.proofs.slots_of.Goals as goal

pub returns : goal.returns
unfolding slots_of
returns c = (c.four_bytes.ensures.0 ∙ rw (c.slot_of-d.ensures.0, c.slot_of-c.ensures.0, c.slot_of-b.ensures.0, c.slot_of-a.ensures.0) refl, c.four_bytes.ensures.1)

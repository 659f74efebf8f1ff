use mathlib.Core.Path.{refl}
use native.Mathlib.Omega.{arith}
use Rattle.lowering.specs.Lowering.{mask}
use Rattle.lowering.proofs.mask.Goals as goal

pub returns : goal.returns
unfolding mask
returns c = (rw (c.slot_bit-t.ensures.0, c.slot_bit-z.ensures.0, c.slot_bit-y.ensures.0, c.slot_bit-x.ensures.0) refl, omega arith)

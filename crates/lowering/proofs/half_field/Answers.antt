use mathlib.Core.Path.{refl}
use native.Mathlib.Omega.{arith}
use Rattle.lowering.specs.Lowering.{token_values}
use Rattle.lowering.proofs.half_field.Goals as goal

pub returns : goal.returns
unfolding token_values
returns c = (rw (c.half.ensures, c.word_at.ensures) refl, omega arith)

use mathlib.Core.Path.{refl}
use native.Mathlib.Omega.{arith}
use Rattle.lowering.specs.Lowering.{number_of}
use Rattle.lowering.proofs.number_field.Goals as goal

pub returns : goal.returns
unfolding number_of
returns c = (rw (c.value.ensures, c.text_at.ensures, c.word_at.ensures) refl, omega (arith, c.value.ensures))

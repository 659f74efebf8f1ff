use native.Mathlib.Omega.{arith}
use mathlib.Core.Path.{refl, ◌∙◌}
use Rattle.digits.specs.Packed.{without}
use Rattle.digits.proofs.remove.Goals as goal

pub returns : goal.returns
unfolding without
returns c = (c.digit_before.ensures.0 ∙ rw (c.digit_before-r.ensures.0, c.digit_before-q.ensures.0, c.digit_before-p.ensures.0) refl, omega arith)

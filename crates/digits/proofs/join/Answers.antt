use Rattle.digits.specs.Packed.{joined}
use mathlib.Core.Path.{refl, ◌∙◌}
use Rattle.digits.proofs.join.Goals as goal

pub returns : goal.returns
unfolding joined
returns c = (c.add.ensures.0 ∙ rw (c.add-z.ensures.0, c.add-y.ensures.0, c.add-x.ensures.0) refl, c.add.ensures.1)

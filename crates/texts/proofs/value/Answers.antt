use mathlib.Core.Path.{refl, sym, ◌∙◌}
use borrow.Author.Rules.{rules}
use native.Mathlib.Omega.{arith}
use Rattle.texts.proofs.ValueLaws.{value_step, value_end}
use Rattle.texts.proofs.value.Goals as goal

pub loop-b-init : goal.loop-b-init
loop-b-init c = (omega arith, refl)

pub loop-b-preserved : goal.loop-b-preserved
loop-b-preserved c = (
  omega (arith, c.with_digit-v.ensures),
  c.loop-b.invariant.1 ∙ value_step 1_000_000 _ c.loop-b.b-index c.loop-b.v (search rules) ∙ rw c.with_digit-v.ensures,
)

pub returns : goal.returns
returns c = sym (c.loop-b.invariant.1 ∙ value_end 1_000_000 _ c.loop-b.b-index c.loop-b.v (search rules) (search rules))

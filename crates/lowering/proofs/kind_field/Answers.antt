use mathlib.Core.Path.{refl, sym, ◌∙◌}
use native.Mathlib.Omega.{arith}
use borrow.Author.Tests.{eq-eqb, ne_eqb}
use Rattle.lowering.specs.Lowering.{kind_field}
use Rattle.lowering.proofs.kind_field.Goals as goal

pub returns-then-w-ne11 : goal.returns-then-w-ne11
unfolding kind_field
returns-then-w-ne11 c = (rw (ne_eqb _ _ c.if-w-ne11.true) refl, omega arith)

pub returns-then-all_stand : goal.returns-then-all_stand
unfolding kind_field
returns-then-all_stand c = (rw (eq-eqb _ _ c.if-w-ne11.false, sym c.all_stand.ensures ∙ c.if-all_stand.true) refl, omega arith)

pub returns-else-all_stand : goal.returns-else-all_stand
unfolding kind_field
returns-else-all_stand c = (rw (eq-eqb _ _ c.if-w-ne11.false, sym c.all_stand.ensures ∙ c.if-all_stand.false) refl, omega arith)

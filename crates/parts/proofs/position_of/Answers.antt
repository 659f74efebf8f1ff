use mathlib.Core.Path.{sym, ap, ◌∙◌}
use mathlib.Core.Bool.{not}
use native.Mathlib.Omega.{arith}
use native.Mathlib.Nat.{zero-add}
use Rattle.definition.specs.Text.{same}
use Rattle.texts.proofs.RunLaws.{run_step, run_stop, run_out}
use Rattle.parts.proofs.PositionLaws.{differs}
use Rattle.parts.proofs.position_of.Goals as goal

pub loop-k-init : goal.loop-k-init
loop-k-init c = sym (zero-add _)

pub returns-then-same-clause-value : goal.returns-then-same-clause-value
returns-then-same-clause-value c = sym (c.loop-k.invariant
    ∙ run_stop (differs _ _ _) _ _ c.loop-k-test.true (ap not (sym (c.same.ensures ∙ ap (same _) c.text_of.ensures) ∙ c.if-same.true)))

pub loop-k-preserved : goal.loop-k-preserved
loop-k-preserved c = c.loop-k.invariant
    ∙ run_step (differs _ _ _) _ _ c.loop-k-test.true (ap not (sym (c.same.ensures ∙ ap (same _) c.text_of.ensures) ∙ c.if-same.false))

pub returns-clause-value : goal.returns-clause-value
returns-clause-value c =
    let e = c.loop-k.invariant ∙ run_out (differs _ _ _) _ _ c.loop-k-test.false in
    omega (arith, e, c.loop-k.auto.k-end, c.loop-k-test.false)

use Prim.Native.Nat.{ℕ}
use mathlib.Core.Path.{◌≡◌, sym, subst, ap₂, ◌∙◌}
use native.Mathlib.Omega.{arith}
use lib.ListN.{length}
use Rattle.std.specs.Prelude.{Err}
use Rattle.parts.specs.Entries.{enter}
use Rattle.parts.specs.Places.{entered_at}
use Rattle.texts.specs.Orders.{order}
use Rattle.parts.specs.Packed.{text_of}
use Rattle.parts.proofs.EntryLaws.{passed_none, passed_end, passed_found, passed_new, passed_one}
use Rattle.parts.proofs.place_of.Goals as goal

pub loop-p-init : goal.loop-p-init
loop-p-init c = (c.text_of-text.ensures, passed_none _ _ _ _)

pub returns-in-Equal-clause-value : goal.returns-in-Equal-clause-value
returns-in-Equal-clause-value c = passed_found _ _ _ _ _ c.loop-p.invariant.1 c.loop-p-test.true
    (ap₂ order (sym c.loop-p.invariant.0) (sym c.text_of.ensures) ∙ sym c.compare.ensures ∙ c.in-Equal.is)

pub returns-in-Less-clause-value : goal.returns-in-Less-clause-value
returns-in-Less-clause-value c = passed_new _ _ _ _ _ c.loop-p.invariant.1 c.loop-p-test.true
    (ap₂ order (sym c.loop-p.invariant.0) (sym c.text_of.ensures) ∙ sym c.compare.ensures ∙ c.in-Less.is)

pub loop-p-preserved : goal.loop-p-preserved
loop-p-preserved c = (
  c.loop-p.invariant.0,
  passed_one _ _ _ _ _ c.loop-p.invariant.1 c.loop-p-test.true
      (ap₂ order (sym c.loop-p.invariant.0) (sym c.text_of.ensures) ∙ sym c.compare.ensures ∙ c.in-Greater.is),
)

pub returns-clause-value : goal.returns-clause-value
returns-clause-value c =
    let a = c.args in
    let ws = a.parts.now in
    let e : c.loop-p.p ≡ length ws = omega (arith, c.loop-p.auto.p-end, c.loop-p-test.false) in
    subst (λ (k : ℕ). enter a.facts.now a.query.now a.v ws ≡ entered_at a.v ws (Err k)) e (passed_end _ _ _ _ _ c.loop-p.invariant.1 c.loop-p-test.false)

use mathlib.Core.Path.{sym, ap, ◌∙◌}
use Rattle.definition.specs.Text.{some_of}
use lib.Dec.{eqb}
use mathlib.Core.List.{[], ◌∷◌}
use Prim.Native.Nat.{ℕ}
use Rattle.patterns.proofs.ByteLaws.{among_is, class_none, class_hit, class_other, class_miss}
use Rattle.patterns.proofs.no_class.Goals as goal
use Rattle.patterns.proofs.no_class.Goals.{else-b-eq91-via-then-b-eq91+else-contains, else-b-eq91-via-else-b-eq91}

pub returns-then-contains : goal.returns-then-contains
returns-then-contains c =
    sym (c.loop-i.invariant ∙ class_hit _ c.loop-i.i c.loop-i-test.true c.if-b-eq91.true (ap (λ (b : ℕ). some_of (eqb b) (58 ∷ 46 ∷ 61 ∷ [])) (sym c.byte_at.ensures) ∙ sym (c.contains.ensures.value ∙ among_is _ _) ∙ c.if-contains.true))

pub loop-i-preserved : goal.loop-i-preserved
loop-i-preserved c =
    elim c.else-b-eq91.branch [
      | else-b-eq91-via-then-b-eq91+else-contains w ↦ c.loop-i.invariant ∙ class_miss _ c.loop-i.i c.loop-i-test.true (ap (λ (b : ℕ). some_of (eqb b) (58 ∷ 46 ∷ 61 ∷ [])) (sym w.byte_at.ensures) ∙ sym (w.contains.ensures.value ∙ among_is _ _) ∙ w.if-contains.false)
      | else-b-eq91-via-else-b-eq91 w ↦ c.loop-i.invariant ∙ class_other _ c.loop-i.i c.loop-i-test.true w.if-b-eq91.false
    ]

pub returns : goal.returns
returns c = sym (c.loop-i.invariant ∙ class_none _ c.loop-i.i c.loop-i-test.false)

-- The names of the open FORs stand for the elements that the step loop holds by depth.
use Prim.Native.Nat.{ℕ, suc, ◌-◌, ◌<◌}
use mathlib.Core.Path.{◌≡◌, refl, sym, ap, ◌∙◌}
use mathlib.Core.Bool.{Bool, true, false, cond}
use mathlib.Core.List.{List, [], ◌∷◌}
use native.Mathlib.Omega.{arith}
use lib.Dec.{T}
use lib.ListN.{length, get_or}
use Rattle.definition.specs.Text.{Text, same, member, some_of}
use Rattle.definition.specs.Accept.{Accepted, elements}
use Rattle.definition.specs.Meaning.{bind}
use Rattle.definition.proofs.MeaningLaws.{same_eq, member_first, member_later}
use Rattle.meaning.specs.Ready.{Loops}
use Rattle.meaning.proofs.Fit.{rest_in}
use Rattle.code.specs.Statements.{depth_in, Named}
use Rattle.machine.specs.Actions.{scope_environment}

-- the element of a name is held at its depth
pub depth_value : (v : Text) (scope : List Text) (vs : List ℕ) → T (member v scope) → get_or vs (depth_in v scope) 0 ≡ scope_environment scope vs v
unfolding depth_in scope_environment bind
depth_value v [] vs m = absurd (unfold member some_of in m)
depth_value v (x ∷ xs) vs m = go (same x v) refl (depth_value v xs vs)
  where
    go : (b : Bool) → same x v ≡ b → (T (member v xs) → get_or vs (depth_in v xs) 0 ≡ scope_environment xs vs v)
        → get_or vs (cond b (length xs) (depth_in v xs)) 0 ≡ cond b (get_or vs (length xs) 0) (scope_environment xs vs v)
    go true e ih = refl
    go false e ih = ih (rest_in x v xs m (rw e tt))

pub depth_low : (v : Text) (scope : List Text) → T (member v scope) → depth_in v scope < length scope
unfolding depth_in
depth_low v [] m = absurd (unfold member some_of in m)
depth_low v (x ∷ xs) m = go (same x v) refl (depth_low v xs)
  where
    go : (b : Bool) → same x v ≡ b → (T (member v xs) → depth_in v xs < length xs) → cond b (length xs) (depth_in v xs) < suc (length xs)
    go true e ih = omega arith
    go false e ih = omega (arith, ih (rest_in x v xs m (rw e tt)))

-- any other name stands for 0
pub outside_zero : (v : Text) (scope : List Text) (vs : List ℕ) → (T (member v scope) → ⊥) → scope_environment scope vs v ≡ 0
unfolding scope_environment bind
outside_zero v [] vs h = refl
outside_zero v (x ∷ xs) vs h = go (same x v) refl (outside_zero v xs vs (λ m. h (member_later x v xs m)))
  where
    go : (b : Bool) → same x v ≡ b → scope_environment xs vs v ≡ 0 → cond b (get_or vs (length xs) 0) (scope_environment xs vs v) ≡ 0
    go true e ih = absurd (h (rw (same_eq x v (rw e tt)) (member_first v xs)))
    go false e ih = ih

module _ (w : Accepted) (β : Text → ℕ) (scope : List Text) (named : Named scope β) (vs : List ℕ) (inside : (d : ℕ) → d < length scope → get_or vs d 0 < elements w) where
  pub open_loops : Loops w β scope vs (scope_environment scope vs)
  open_loops =
      record {
        value = λ v m. ap (λ (d : ℕ). get_or vs d 0) (at v m) ∙ depth_value v scope vs m;
        within = λ v m. rw (sym (depth_value v scope vs m)) (inside (depth_in v scope) (depth_low v scope m));
      }
    where
      at : (v : Text) → T (member v scope) → β v - 72 ≡ depth_in v scope
      at v m = omega (arith, named.depths v m)

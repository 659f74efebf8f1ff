-- A name with an arity is that of one relation among relations with different names.
use Prim.Native.Nat.{ℕ, zero, suc, ◌<◌}
use mathlib.Core.Path.{◌≡◌, refl, sym, ap, subst, ◌∙◌}
use mathlib.Core.Bool.{Bool, true, false, cond}
use mathlib.Core.List.{List, [], ◌∷◌}
use native.Mathlib.Nat.{le_of_suc-le-suc}
use native.Mathlib.Omega.{arith}
use lib.ListN.{length, get_or}
use Rattle.definition.specs.Text.{Text, same}
use Rattle.definition.specs.Facts.{Relation, arities}
use Rattle.definition.proofs.BoolLaws.{apart}
use Rattle.definition.proofs.ListLaws.{Every, every_one}
use Rattle.definition.proofs.MeaningLaws.{same_equal, same_itself, same_sym}
use Rattle.definition.proofs.RelationLaws.{place_of, no_relation}
use Rattle.definition.proofs.DistinctLaws.{Distinct, distinct_head, distinct_tail, absent}
use Rattle.definition.proofs.NamedLaws.{names}
use Rattle.tuples.proofs.Loading.{Without, none, one, Alone, here, there}

without : (x : Text) (rs : List Relation) → Every (λ y. same x y ≡ false) (names rs) → Without x rs
without x [] h = none
without x (r ∷ rs) (every_one h hs) = one (same_sym r.name x ∙ h) (without x rs hs)

pub alone : (x : Text) (n : ℕ) (rs : List Relation) → Distinct (names rs) → arities x rs ≡ n ∷ [] → Alone x n rs (place_of x rs)
unfolding arities place_of
alone x n [] d e = let z : ◌≡◌ {A = ℕ} 0 1 = cc in absurd (omega arith)
alone x n (r ∷ rs) d e = go (same x r.name) refl e (alone x n rs (distinct_tail d))
  where
    go : (b : Bool) → same x r.name ≡ b → cond b (r.arity ∷ []) (arities x rs) ≡ n ∷ [] → (arities x rs ≡ n ∷ [] → Alone x n rs (place_of x rs))
        → Alone x n (r ∷ rs) (cond b 0 (suc (place_of x rs)))
    go true s e ih =
        let q : x ≡ r.name = same_equal x r.name s in
        here (ap (λ (y : Text). same y x) (sym q) ∙ same_itself x) (sym (ap (λ (ns : List ℕ). get_or ns 0 0) e))
        (subst (λ (y : Text). Without y rs) (sym q) (without r.name rs (absent r.name (names rs) (distinct_head d))))
    go false s e ih = there (same_sym r.name x ∙ s) (ih e)

-- the relation at that place
pub alone_at : {x : Text} {n : ℕ} {rs : List Relation} {k : ℕ} → Alone x n rs k → (k < length rs) × (same (get_or rs k no_relation).name x ≡ true) × (n ≡ (get_or rs k no_relation).arity)
alone_at (here e a w) = (omega arith, e, a)
alone_at (there e h) = let i = alone_at h in (omega (arith, i.0), i.1, i.2)

without_at : {x : Text} {rs : List Relation} → Without x rs → (j : ℕ) → j < length rs → same (get_or rs j no_relation).name x ≡ false
without_at none j l = absurd (omega arith)
without_at (one e w) zero l = e
without_at (one e w) (suc j) l = without_at w j (le_of_suc-le-suc l)

-- and at no other
pub alone_one : {x : Text} {n : ℕ} {rs : List Relation} {k : ℕ} → Alone x n rs k → (j : ℕ) → j < length rs → same (get_or rs j no_relation).name x ≡ true → k ≡ j
alone_one (here e a w) zero l s = refl
alone_one (here e a w) (suc j) l s = absurd (apart (sym s ∙ without_at w j (le_of_suc-le-suc l)))
alone_one (there e h) zero l s = absurd (apart (sym s ∙ e))
alone_one (there e h) (suc j) l s = ap suc (alone_one h j (le_of_suc-le-suc l) s)

-- Several numbers entered, and the set of the numbers below a bound that pass a test.
use Prim.Native.Nat.{ℕ, zero, suc, ◌+◌, ◌≤◌, ◌<◌}
use mathlib.Core.Path.{◌≡◌, refl, sym, ap, ◌∙◌}
use mathlib.Core.Bool.{Bool, true, false, cond}
use mathlib.Core.List.{List, [], ◌∷◌, ◌++◌}
use mathlib.Core.Logic.{◌⊎◌, inl, inr, ⊎_elim}
use native.Mathlib.Nat.{eq-or-lt_of_le}
use native.Mathlib.Omega.{arith}
use Rattle.definition.specs.Text.{keep, from}
use Rattle.definition.proofs.InLaws.{In, here, there}
use Rattle.numbers.specs.Sets.{Ascending, none, rises, entered, entered_all}
use Rattle.numbers.proofs.SetLaws.{first_or, in_entered, entered_in, entered_ascends, not_in}

-- ---- several numbers entered

pub all_ascends : (vs ws : List ℕ) → Ascending ws → Ascending (entered_all vs ws)
unfolding entered_all
all_ascends [] ws a = a
all_ascends (v ∷ vs) ws a = all_ascends vs (entered v ws) (entered_ascends v ws a)

pub in_all : (vs ws : List ℕ) (x : ℕ) → In x vs ⊎ In x ws → In x (entered_all vs ws)
unfolding entered_all
in_all [] ws x h = ⊎_elim (λ i. absurd (not_in i)) (λ i. i) h
in_all (v ∷ vs) ws x h =
    in_all vs (entered v ws) x (⊎_elim (λ i. ⊎_elim (λ e. inr (in_entered v ws x (inl e))) (λ j. inl j) (first_or i)) (λ i. inr (in_entered v ws x (inr i))) h)

pub all_in : (vs ws : List ℕ) (x : ℕ) → In x (entered_all vs ws) → In x vs ⊎ In x ws
unfolding entered_all
all_in [] ws x h = inr h
all_in (v ∷ vs) ws x h = ⊎_elim (λ i. inl (there i)) (λ i. ⊎_elim (λ e. inl (here e)) (λ j. inr j) (entered_in v ws x i)) (all_in vs (entered v ws) x h)

pub all_snoc : (vs : List ℕ) (v : ℕ) (ws : List ℕ) → entered_all (vs ++ (v ∷ [])) ws ≡ entered v (entered_all vs ws)
unfolding entered_all
all_snoc [] v ws = refl
all_snoc (x ∷ vs) v ws = all_snoc vs v (entered x ws)

-- ---- the numbers below a bound that pass a test

module _ (f : ℕ → Bool) where
  -- the bounds of a kept number, and its test
  pub kept_told : (n a x : ℕ) → In x (keep f (from n a)) → (a ≤ x) × (x < a + n) × (f x ≡ true)
  unfolding keep from
  kept_told zero a x h = absurd (not_in h)
  kept_told (suc n) a x h = go (f a) refl h (kept_told n (suc a) x)
    where
      go : (b : Bool) → f a ≡ b → In x (cond b (a ∷ keep f (from n (suc a))) (keep f (from n (suc a)))) → (In x (keep f (from n (suc a))) → (suc a ≤ x) × (x < suc a + n) × (f x ≡ true))
          → (a ≤ x) × (x < a + suc n) × (f x ≡ true)
      go true e i ih = ⊎_elim (λ (q : x ≡ a). (omega (arith, q), omega (arith, q), ap f q ∙ e)) (λ j. let k = ih j in (omega (arith, k.0), omega (arith, k.1), k.2)) (first_or i)
      go false e i ih = let k = ih i in (omega (arith, k.0), omega (arith, k.1), k.2)

  pub kept_ascends : (n a : ℕ) → Ascending (keep f (from n a))
  unfolding keep from
  kept_ascends zero a = none
  kept_ascends (suc n) a = go (f a) (kept_ascends n (suc a)) (kept_told n (suc a))
    where
      go : (b : Bool) → Ascending (keep f (from n (suc a))) → ((x : ℕ) → In x (keep f (from n (suc a))) → (suc a ≤ x) × (x < suc a + n) × (f x ≡ true))
          → Ascending (cond b (a ∷ keep f (from n (suc a))) (keep f (from n (suc a))))
      go true ih t = rises {w = a} (λ x i. (t x i).0) ih
      go false ih t = ih

  pub in_kept : (n a x : ℕ) → a ≤ x → x < a + n → f x ≡ true → In x (keep f (from n a))
  unfolding keep from
  in_kept zero a x l h e = absurd (omega arith)
  in_kept (suc n) a x l h e = go (f a) refl (in_kept n (suc a) x)
    where
      go : (b : Bool) → f a ≡ b → (suc a ≤ x → x < suc a + n → f x ≡ true → In x (keep f (from n (suc a)))) → In x (cond b (a ∷ keep f (from n (suc a))) (keep f (from n (suc a))))
      go true q ih = ⊎_elim (λ (p : a ≡ x). here (sym p)) (λ (k : a < x). there (ih k (omega arith) e)) (eq-or-lt_of_le l)
      go false q ih =
          ⊎_elim (λ (p : a ≡ x). absurd (apart (sym q ∙ ap f p ∙ e))) (λ (k : a < x). ih k (omega arith) e) (eq-or-lt_of_le l)
        where
          apart : ◌≡◌ {A = Bool} false true → ⊥
          apart z = let y : ◌≡◌ {A = ℕ} 0 1 = cc in omega arith

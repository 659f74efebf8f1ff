-- Values of slots, one slot after another. What a fold over the values makes of a function of the assignment is the same for the slots of a
-- list and for those of a mask, in whatever order the slots come.
use Prim.Native.Nat.{ℕ, zero, suc, ◌<◌}
use mathlib.Core.Path.{◌≡◌, refl, sym, ap, ap₂, ◌∙◌, fun_ext}
use mathlib.Core.Bool.{Bool, true, false, not, ◌||◌, ◌&&◌, cond, and-false}
use mathlib.Core.List.{List, [], ◌∷◌}
use native.Mathlib.Omega.{arith}
use borrow.Author.Tests.{ne_eqb, eq-eqb, eqb-true, eqb-false, lt-ltb, le-ltb, ltb-true}
use lib.Dec.{eqb, ltb}
use lib.ListN.{set}
use lib.Seq.{set_comm}
use Rattle.definition.specs.Text.{some_of, keep}
use Rattle.definition.specs.Tables.{Tuple, bit}
use Rattle.definition.proofs.BoolLaws.{contradiction, or_eq_false}
use Rattle.leaves.proofs.Slots.{ranging}
use Rattle.meaning.proofs.Numbers.{bool_ext}

-- the slots ks given the elements of a tuple
unfoldable pub set_all : List ℕ → Tuple → List ℕ → List ℕ
set_all [] t τ = τ
set_all (k ∷ ks) [] τ = set (set_all ks [] τ) k 0
set_all (k ∷ ks) (a ∷ t) τ = set (set_all ks t τ) k a

-- one of the slots ks
abbrev pub In : List ℕ → ℕ → Bool
In ks i = some_of (λ k. eqb k i) ks

-- no slot twice
unfoldable pub Apart : List ℕ → Type 0
Apart [] = Unit {0}
Apart (k ∷ ks) = (In ks k ≡ false) × Apart ks

in_head : (k i : ℕ) (ks : List ℕ) → i ≡ k → In (k ∷ ks) i ≡ true
unfolding some_of
in_head k i ks e = rw (eq-eqb k i (sym e)) refl

-- the slots ks but for k
abbrev without : ℕ → List ℕ → List ℕ
without k ks = keep (λ j. not (eqb j k)) ks

in_without : (k i : ℕ) (ks : List ℕ) → In (without k ks) i ≡ not (eqb i k) && In ks i
unfolding some_of keep
in_without k i [] = sym (and-false (not (eqb i k)))
in_without k i (j ∷ ks) = go (eqb j k) (eqb i k) refl refl (in_without k i ks)
  where
    other : j ≡ k → (i ≡ k → ⊥) → eqb j i ≡ false
    other e n = ne_eqb j i (λ q. n (sym q ∙ e))

    go : (b c : Bool) → eqb j k ≡ b → eqb i k ≡ c → In (without k ks) i ≡ not (eqb i k) && In ks i → In (cond (not b) (j ∷ without k ks) (without k ks)) i ≡ not c && (eqb j i || In ks i)
    go true true e f h = rw f at h
    go true false e f h = rw (other (eqb-true j k e) (eqb-false i k f)) (rw f at h)
    go false true e f h = ap₂ ◌||◌ (ne_eqb j i (λ q. eqb-false j k e (q ∙ eqb-true i k f))) (rw f at h)
    go false false e f h = ap (λ (x : Bool). eqb j i || x) (rw f at h)

without_none : (k : ℕ) (ks : List ℕ) → In ks k ≡ false → without k ks ≡ ks
unfolding some_of keep
without_none k [] h = refl
without_none k (j ∷ ks) h = let q = or_eq_false (eqb j k) (In ks k) h in rw q.0 (ap (λ (l : List ℕ). j ∷ l) (without_none k ks q.1))

apart_without : (k : ℕ) (ks : List ℕ) → Apart ks → Apart (without k ks)
unfolding Apart keep
apart_without k [] a = tt
apart_without k (j ∷ ks) a = go (eqb j k) (apart_without k ks a.1)
  where
    go : (b : Bool) → Apart (without k ks) → Apart (cond (not b) (j ∷ without k ks) (without k ks))
    go true h = h
    go false h = (in_without k j ks ∙ rw a.0 (and-false (not (eqb j k))), h)

-- the slots of M below k
abbrev pub under : (ℕ → Bool) → ℕ → ℕ → Bool
under M k i = cond (ltb i k) (M i) false

module _ (M : ℕ → Bool) where
  under_none : (i : ℕ) → under M 0 i ≡ false
  under_none i = rw (le-ltb i 0 (omega arith)) refl

  under_self : (k : ℕ) → under M k k ≡ false
  under_self k = rw (le-ltb k k (omega arith)) refl

  under_last : (k : ℕ) → under M (suc k) k ≡ M k
  under_last k = rw (lt-ltb k (suc k) (omega arith)) refl

  under_other : (k i : ℕ) → (i ≡ k → ⊥) → under M (suc k) i ≡ under M k i
  under_other k i h = ap (λ (b : Bool). cond b (M i) false) (bool_ext (ltb i (suc k)) (ltb i k) (λ e. lt-ltb i k (lower i k h (ltb-true i (suc k) e))) (λ e. lt-ltb i (suc k) (omega (arith, ltb-true i k e))))
    where
      lower : (i k : ℕ) → (i ≡ k → ⊥) → i < suc k → i < k
      lower i k n l = omega arith

  -- without the last, if it is one of M; all of them, if not
  under_less : (k i : ℕ) → under M k i ≡ not (eqb i k) && under M (suc k) i
  under_less k i = go (eqb i k) refl
    where
      go : (b : Bool) → eqb i k ≡ b → under M k i ≡ not b && under M (suc k) i
      go true q = let z : i ≡ k = eqb-true i k q in rw z (under_self k)
      go false q = sym (under_other k i (eqb-false i k q))

  under_off : (k i : ℕ) → M k ≡ false → under M k i ≡ under M (suc k) i
  under_off k i e = go (eqb i k) refl
    where
      go : (b : Bool) → eqb i k ≡ b → under M k i ≡ under M (suc k) i
      go true q = let z : i ≡ k = eqb-true i k q in rw z (under_self k ∙ sym (under_last k ∙ e))
      go false q = sym (under_other k i (eqb-false i k q))

module _ {A : Type 0} (fold : (ℕ → A) → A) where
  -- over the values of the slots ks
  unfoldable pub each : List ℕ → (List ℕ → A) → List ℕ → A
  each [] g τ = g τ
  each (k ∷ ks) g τ = fold (λ a. each ks (λ σ. g (set σ k a)) τ)

  -- over the tuples of n elements
  unfoldable pub gathered : ℕ → (Tuple → A) → A
  gathered zero f = f []
  gathered (suc n) f = fold (λ a. gathered n (λ t. f (a ∷ t)))

  -- a slot that is none of ks may be set first
  first_set : (k a : ℕ) (ks : List ℕ) (g : List ℕ → A) (τ : List ℕ) → In ks k ≡ false → each ks (λ σ. g (set σ k a)) τ ≡ each ks g (set τ k a)
  unfolding each some_of
  first_set k a [] g τ h = refl
  first_set k a (j ∷ ks) g τ h =
      let q = or_eq_false (eqb j k) (In ks k) h in
      ap fold
      (fun_ext
      (λ b.
      ap (λ (f : List ℕ → A). each ks f τ) (fun_ext (λ σ. ap g (set_comm σ j k b a (eqb-false j k q.0))))
      ∙ first_set k a ks (λ σ. g (set σ j b)) τ q.1))

  module _ (swap : (F : ℕ → ℕ → A) → fold (λ a. fold (λ b. F a b)) ≡ fold (λ b. fold (λ a. F a b))) where
    -- one of the slots taken first
    first_of : (k : ℕ) (ks : List ℕ) (g : List ℕ → A) (τ : List ℕ) → Apart ks → In ks k ≡ true → each ks g τ ≡ fold (λ a. each (without k ks) g (set τ k a))
    unfolding each Apart some_of keep
    first_of k [] g τ p h = contradiction (In [] k) h refl
    first_of k (j ∷ ks) g τ p h = go (eqb j k) refl h (λ f i. first_of k ks f τ p.1 i)
      where
        go : (b : Bool) → eqb j k ≡ b → b || In ks k ≡ true → ((f : List ℕ → A) → In ks k ≡ true → each ks f τ ≡ fold (λ a. each (without k ks) f (set τ k a)))
            → fold (λ b. each ks (λ σ. g (set σ j b)) τ) ≡ fold (λ a. each (cond (not b) (j ∷ without k ks) (without k ks)) g (set τ k a))
        go true e i r =
            let z : j ≡ k = eqb-true j k e in
            ap fold (fun_ext (λ a. first_set j a ks g τ p.0 ∙ ap₂ (λ (l : List ℕ) (i : ℕ). each l g (set τ i a)) (sym (without_none k ks (ap (In ks) (sym z) ∙ p.0))) z))
        go false e i r = ap fold (fun_ext (λ b. r (λ σ. g (set σ j b)) i)) ∙ swap (λ b a. each (without k ks) (λ σ. g (set σ j b)) (set τ k a))

    -- over the values of the slots of a mask
    pub each_ranging : (mask n : ℕ) (ks : List ℕ) (g : List ℕ → A) (τ : List ℕ) → Apart ks → ((i : ℕ) → under (bit mask) n i ≡ In ks i) → each ks g τ ≡ ranging fold mask g n τ
    unfolding each ranging
    each_ranging mask zero [] g τ p m = refl
    each_ranging mask zero (k ∷ ks) g τ p m = contradiction (In (k ∷ ks) k) (in_head k k ks refl) (sym (m k) ∙ under_none (bit mask) k)
    each_ranging mask (suc n) ks g τ p m =
        go (bit mask n) refl
        (λ τ'. each_ranging mask n (without n ks) g τ' (apart_without n ks p) (λ i. under_less (bit mask) n i ∙ ap (λ (b : Bool). not (eqb i n) && b) (m i) ∙ sym (in_without n i ks)))
        (λ e. each_ranging mask n ks g τ p (λ i. under_off (bit mask) n i e ∙ m i))
      where
        go : (b : Bool) → bit mask n ≡ b → ((τ' : List ℕ) → each (without n ks) g τ' ≡ ranging fold mask g n τ') → (bit mask n ≡ false → each ks g τ ≡ ranging fold mask g n τ)
            → each ks g τ ≡ cond b (fold (λ a. ranging fold mask g n (set τ n a))) (ranging fold mask g n τ)
        go true e r s = first_of n ks g τ p (sym (m n) ∙ under_last (bit mask) n ∙ e) ∙ ap fold (fun_ext (λ a. r (set τ n a)))
        go false e r s = s e

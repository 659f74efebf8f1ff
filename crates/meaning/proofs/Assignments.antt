-- All assignments to some names, and all values of the slots of their mask.
use Prim.Native.Nat.{ℕ, ◌-◌, ◌<◌, ◌≤◌}
use mathlib.Core.Path.{◌≡◌, refl, sym, ap, ap₂, subst, ◌∙◌}
use mathlib.Core.Bool.{Bool, true, false, ◌||◌, cond}
use mathlib.Core.List.{List, [], ◌∷◌}
use native.Mathlib.Omega.{arith}
use borrow.Author.Tests.{ne_eqb, ltb-true, ltb-false}
use lib.Dec.{T, eqb, ltb}
use lib.ListN.{length, get_or, set}
use Rattle.definition.specs.Text.{Text, member, some_of, all_of, keep}
use Rattle.definition.specs.Tables.{bit, tuples}
use Rattle.definition.specs.Accept.{Accepted, elements}
use Rattle.definition.specs.Meaning.{Environment, bind, bind_all}
use Rattle.definition.proofs.DistinctLaws.{Distinct, distinct_head, distinct_tail}
use Rattle.definition.proofs.MeaningLaws.{member_first, member_later}
use Rattle.eval.specs.Nodes.{slot, operand, d_of}
use Rattle.eval.specs.Meaning.{throughout, tally}
use Rattle.leaves.proofs.Slots.{ranging, throughout_ranging, tally_ranging}
use Rattle.meaning.specs.Lowered.{Naming, Mask}
use Rattle.meaning.specs.Ready.{Fits}
use Rattle.meaning.proofs.Slots.{In, Apart, under, each, gathered, each_ranging}
use Rattle.meaning.proofs.Folds.{one_if, all, same_all, swap_all, all_tuples, sum, same_sum, swap_sum, sum_tuples}
use Rattle.meaning.proofs.Fit.{slot_low, fits_bind, rest_in, slots}

module _ (w : Accepted) (β : Text → ℕ) (loops : List Text) (vs : List ℕ) (naming : Naming β loops) where
  abbrev u : ℕ
  u = elements w

  abbrev Fit : List Text → Environment → List ℕ → Type 0
  Fit = Fits w β loops vs

  -- names whose bytes are slots
  abbrev Slotted : List Text → Type 0
  Slotted xs = (x : Text) → T (member x xs) → operand (β x) ≡ slot (β x - 64)

  in_slots : (xs : List Text) (i : ℕ) → some_of (λ x. eqb (β x - 64) i) xs ≡ In (slots w β loops vs naming xs) i
  unfolding some_of
  in_slots [] i = refl
  in_slots (x ∷ xs) i = ap (λ (b : Bool). eqb (β x - 64) i || b) (in_slots xs i)

  in_high : (xs : List Text) (i : ℕ) → Slotted xs → 8 ≤ i → In (slots w β loops vs naming xs) i ≡ false
  unfolding some_of
  in_high [] i s h = refl
  in_high (x ∷ xs) i s h =
      let l = slot_low (β x) (β x - 64) (s x (member_first x xs)) in
      ap₂ ◌||◌ (ne_eqb (β x - 64) i (λ e. absurd (omega arith))) (in_high xs i (λ y m. s y (member_later x y xs m)) h)

  -- two names have two slots
  slot_new : (x : Text) (xs : List Text) → operand (β x) ≡ slot (β x - 64) → Slotted xs → member x xs ≡ false → In (slots w β loops vs naming xs) (β x - 64) ≡ false
  unfolding some_of
  slot_new x [] o s m = refl
  slot_new x (y ∷ xs) o s m =
      ap₂ ◌||◌ (ne_eqb (β y - 64) (β x - 64) (λ e. other (naming.apart y x (β x - 64) (s y (member_first y xs) ∙ ap slot e) o)))
      (slot_new x xs o (λ z n. s z (member_later y z xs n)) (fewer (member x xs) refl))
    where
      other : y ≡ x → ⊥
      other e = subst T m (subst (λ (z : Text). T (member x (z ∷ xs))) (sym e) (member_first x xs))

      fewer : (b : Bool) → member x xs ≡ b → b ≡ false
      fewer true e = absurd (subst T m (member_later y x xs (subst T (sym e) tt)))
      fewer false e = refl

  slots_apart : (xs : List Text) → Slotted xs → Distinct xs → Apart (slots w β loops vs naming xs)
  unfolding Apart
  slots_apart [] s d = tt
  slots_apart (x ∷ xs) s d = (slot_new x xs (s x (member_first x xs)) (λ y m. s y (member_later x y xs m)) (distinct_head d), slots_apart xs (λ y m. s y (member_later x y xs m)) (distinct_tail d))

  module _ {A : Type 0} (fold : (ℕ → A) → A) (same : (f g : ℕ → A) → ((a : ℕ) → a < u → f a ≡ g a) → fold f ≡ fold g) (swap : (F : ℕ → ℕ → A) → fold (λ a. fold (λ b. F a b)) ≡ fold (λ b. fold (λ a. F a b))) where
    each_assignment : (xs : List Text) (P : Environment → A) (Q : List ℕ → A) (env : Environment) (σ : List ℕ) → Slotted xs
        → ((env' : Environment) (σ' : List ℕ) → Fit xs env' σ' → Q σ' ≡ P env') → Fit [] env σ
        → each fold (slots w β loops vs naming xs) Q σ ≡ gathered fold (length xs) (λ t. P (bind_all xs t env))
    unfolding each gathered bind_all
    each_assignment [] P Q env σ s h f = h env σ f
    each_assignment (x ∷ xs) P Q env σ s h f =
        let k = β x - 64 in
        same (λ a. each fold (slots w β loops vs naming xs) (λ ρ. Q (set ρ k a)) σ) (λ a. gathered fold (length xs) (λ t. P (bind x a (bind_all xs t env))))
        (λ a l. each_assignment xs (λ v. P (bind x a v)) (λ ρ. Q (set ρ k a)) env σ (λ y m. s y (member_later x y xs m))
        (λ v ρ g. h (bind x a v) (set ρ k a) (fits_bind w β loops vs naming x k a (s x (member_first x xs)) l (λ y m n. rest_in x y xs m n) g)) f)

    masked : (low : List ℕ) (k : ℕ) (xs : List Text) (P : Environment → A) (Q : List ℕ → A) (env : Environment) (σ : List ℕ) → Mask w β loops low k xs → Distinct xs
        → ((env' : Environment) (σ' : List ℕ) → Fit xs env' σ' → Q σ' ≡ P env') → Fit [] env σ
        → ranging fold (d_of (get_or low k 0)) Q 8 σ ≡ gathered fold (length xs) (λ t. P (bind_all xs t env))
    masked low k xs P Q env σ l d h f =
        sym (each_ranging fold swap (d_of (get_or low k 0)) 8 (slots w β loops vs naming xs) Q σ (slots_apart xs l.slots d) here) ∙ each_assignment xs P Q env σ l.slots h f
      where
        here : (i : ℕ) → under (bit (d_of (get_or low k 0))) 8 i ≡ In (slots w β loops vs naming xs) i
        here i = go (ltb i 8) refl
          where
            go : (b : Bool) → ltb i 8 ≡ b → cond b (bit (d_of (get_or low k 0)) i) false ≡ In (slots w β loops vs naming xs) i
            go true e = l.bits i (ltb-true i 8 e) ∙ in_slots xs i
            go false e = sym (in_high xs i l.slots (ltb-false i 8 e))

  module _ (low : List ℕ) (k : ℕ) (xs : List Text) (P : Environment → Bool) (Q : List ℕ → Bool) (env : Environment) (σ : List ℕ) (l : Mask w β loops low k xs) (d : Distinct xs)
      (h : (env' : Environment) (σ' : List ℕ) → Fit xs env' σ' → Q σ' ≡ P env') (f : Fit [] env σ) where
    -- a test holds at all of them
    pub all_assignments : throughout u (d_of (get_or low k 0)) 8 Q σ ≡ all_of (λ t. P (bind_all xs t env)) (tuples u (length xs))
    all_assignments =
        throughout_ranging u (d_of (get_or low k 0)) Q 8 σ ∙ masked (all u) (same_all u) (swap_all u) low k xs P Q env σ l d h f ∙ sym (all_tuples u (length xs) (λ t. P (bind_all xs t env)))

    -- how many make it true
    pub count_assignments : tally u (d_of (get_or low k 0)) 8 Q σ ≡ length (keep (λ t. P (bind_all xs t env)) (tuples u (length xs)))
    count_assignments =
        tally_ranging u (d_of (get_or low k 0)) Q 8 σ
        ∙ masked (sum u) (same_sum u) (swap_sum u) low k xs (λ v. one_if (P v)) (λ τ. one_if (Q τ)) env σ l d (λ v τ g. ap one_if (h v τ g)) f
        ∙ sym (sum_tuples u (length xs) (λ t. P (bind_all xs t env)))

-- The loops of lowering: terms that may stand for elements, closures counted from the front, cells filled from the front.
use Prim.Native.Nat.{ℕ, zero, suc, ◌+◌, ◌-◌, ◌<◌, ◌≤◌}
use mathlib.Core.Path.{◌≡◌, refl, sym, ap, ap₂, ◌∙◌}
use mathlib.Core.Bool.{Bool, true, false, not, cond}
use mathlib.Core.List.{List}
use native.Mathlib.Omega.{arith}
use borrow.Author.Tests.{eqb-true, eqb-false, le-leb, lt-leb}
use lib.Dec.{eqb, ltb}
use lib.ListN.{length, get_or, set, length-set}
use lib.Seq.{get_or-set_same, get_or-set_other}
use Rattle.digits.specs.Packed.{count}
use Rattle.slots.specs.Slots.{one_closure}
use Rattle.lowering.specs.Lowering.{Cells, TokenValues, may_stand, all_stand, closures_before, lower_word, lower_at, Filled}

pub count_small : (a : ℕ) → count a < 256
unfolding count
count_small a = go (eqb a 0) (ltb a 8) (ltb a 64) (ltb a 512)
  where
    go : (p q r s : Bool) → cond p 0 (cond q 1 (cond r 2 (cond s 3 4))) < 256
    go true q r s = omega arith
    go false true r s = omega arith
    go false false true s = omega arith
    go false false false true = omega arith
    go false false false false = omega arith

no_true : (b : Bool) → not b ≡ true → b ≡ false
no_true true e = sym e
no_true false e = refl

no_false : (b : Bool) → not b ≡ false → b ≡ true
no_false true e = refl
no_false false e = sym e

-- n terms from k on, of which i are seen
module _ (R C : Cells) (u n k : ℕ) where
  pub stand_start : all_stand R C u n k ≡ all_stand R C u (n - 0) (k + 0)
  stand_start =
      let a : n ≡ n - 0 = omega arith in
      let b : k ≡ k + 0 = omega arith in
      ap₂ (all_stand R C u) a b

  module _ (i : ℕ) (h : all_stand R C u n k ≡ all_stand R C u (n - i) (k + i)) where
    stand_step : i < n → all_stand R C u n k ≡ cond (may_stand C u (R (k + i))) (all_stand R C u (n - (i + 1)) (k + i + 1)) false
    unfolding all_stand
    stand_step l = let e : n - i ≡ suc (n - (i + 1)) = omega arith in h ∙ ap (λ (m : ℕ). all_stand R C u m (k + i)) e

    pub stand_on : (w : ℕ) (b : Bool) → i < n → w ≡ R (k + i) → b ≡ may_stand C u w → not b ≡ false → all_stand R C u n k ≡ all_stand R C u (n - (i + 1)) (k + (i + 1))
    stand_on w b l ew eb t =
        let q : may_stand C u (R (k + i)) ≡ true = rw (← ew) (sym eb ∙ no_false b t) in
        let a : k + i + 1 ≡ k + (i + 1) = omega arith in
        stand_step l ∙ rw (q, a) refl

    pub stand_no : (w : ℕ) (b : Bool) → i < n → w ≡ R (k + i) → b ≡ may_stand C u w → not b ≡ true → false ≡ all_stand R C u n k
    stand_no w b l ew eb t =
        let q : may_stand C u (R (k + i)) ≡ false = rw (← ew) (sym eb ∙ no_true b t) in
        sym (stand_step l ∙ rw q refl)

    pub stand_end : n ≤ i → true ≡ all_stand R C u n k
    unfolding all_stand
    stand_end l = let e : n - i ≡ 0 = omega arith in sym (h ∙ ap (λ (m : ℕ). all_stand R C u m (k + i)) e)

-- closures
module _ (R : Cells) (lo : ℕ) where
  pub none_before : (k : ℕ) → k ≤ lo → closures_before R lo k ≡ 0
  unfolding closures_before
  none_before zero h = refl
  none_before (suc k) h = rw (none_before k (omega arith), lt-leb lo k (omega arith)) refl

  pub closures_on : (c v w k : ℕ) → lo ≤ k → w ≡ R k → v ≡ one_closure w → c ≡ closures_before R lo k → c + v ≡ closures_before R lo (k + 1)
  unfolding closures_before
  closures_on c v w k l ew ev e =
      let s : k + 1 ≡ suc k = omega arith in
      rw (s, le-leb lo k l, ← ew, ← ev, ← e) refl

pub filled_start : (f : ℕ → ℕ) (lo : ℕ) (xs : List ℕ) → Filled f lo lo xs xs
filled_start f lo xs = record { same_length = refl; inside = λ k a b. absurd (omega arith); before = λ k a. refl; after = λ k a. refl }

pub filled_on : (f : ℕ → ℕ) (lo i v : ℕ) (old xs : List ℕ) → lo ≤ i → i < length xs → v ≡ f i → Filled f lo i old xs → Filled f lo (i + 1) old (set xs i v)
filled_on f lo i v old xs l h e F =
    record {
      same_length = length-set xs i v ∙ F.same_length;
      inside = λ k a b. go k a b (eqb k i) refl;
      before = λ k a. get_or-set_other xs i k v 0 (λ z. omega arith) ∙ F.before k a;
      after = λ k a. get_or-set_other xs i k v 0 (λ z. omega arith) ∙ F.after k (omega arith);
    }
  where
    go : (k : ℕ) → lo ≤ k → k < i + 1 → (b : Bool) → eqb k i ≡ b → get_or (set xs i v) k 0 ≡ f k
    go k a b true q = let z : k ≡ i = eqb-true k i q in rw z (get_or-set_same xs i v 0 h ∙ e)
    go k a b false q =
        let z : k ≡ i → ⊥ = eqb-false k i q in
        get_or-set_other xs i k v 0 z ∙ F.inside k a (omega arith)

pub filled_end : (f : ℕ → ℕ) (lo i hi : ℕ) (old xs : List ℕ) → i ≡ hi → Filled f lo i old xs → Filled f lo hi old xs
filled_end f lo i hi old xs e F = rw (← e) F

-- the word at a place of a part, where the closures before it are counted
pub part_word : (R C L F : Cells) (H : TokenValues) (u lo c k v : ℕ) → v ≡ lower_word R C L F H u c k → c ≡ closures_before R lo k → v ≡ lower_at R C L F H u lo k
unfolding lower_at
part_word R C L F H u lo c k v e h = e ∙ ap (λ (x : ℕ). lower_word R C L F H u x k) h

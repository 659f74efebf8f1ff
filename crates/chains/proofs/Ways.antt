-- Levels of elements and the way down them: it is a chain.
use Prim.Native.Nat.{ℕ, zero, suc, ◌-◌, ◌^◌, ◌<◌, ◌≤◌}
use mathlib.Core.Path.{◌≡◌, refl, sym, ap, subst, ◌∙◌}
use mathlib.Core.Logic.{◌⊎◌, inl, inr, ⊎_elim}
use mathlib.Core.Bool.{Bool, true, false, not, ◌&&◌}
use mathlib.Core.List.{List, ◌∷◌}
use native.Mathlib.Nat.{lt_of_lt_of_le, lt_of_le_of_lt, eq-or-lt_of_le, le_of_suc-le-suc}
use native.Mathlib.Omega.{arith}
use native.Mathlib.Decide.{dec_lt}
use borrow.Author.Tests.{eqb-true}
use lib.Bits.{bit_and, or_lt, and_le_r}
use lib.Dec.{T, eqb, eqb→eq, eqb_refl, not_T}
use lib.ListN.{length, get_or, get_or-eq_default}
use lib.Pow.{pow_pos, pow_mono}
use Rattle.definition.specs.Tables.{bit}
use Rattle.definition.specs.Calls.{IsChain}
use Rattle.definition.proofs.BoolLaws.{or_cases, or_left, or_right, and_left, and_right, and_both, is_false, not_both, apart}
use Rattle.bits.proofs.Laws.{bit_of_or, bit_of_and, bit_none, bit_past, bit_with, with_lt, word_lt, word_bit}
use Rattle.chains.specs.Levels.{least, meets, before, level, next, way}
use Rattle.chains.proofs.Least.{least_set}

pub true_is : (b : Bool) → b ≡ true → T b
true_is true e = tt
true_is false e = absurd (apart (sym e))

-- ---- words that meet

-- a bit that is set lies within the word
pub bit_within : (n w i : ℕ) → w < 2 ^ n → T (bit w i) → i < n
bit_within n w i h t = go (dec_lt i n)
  where
    go : Dec (i < n) → i < n
    go (yes l) = l
    go (no l) = absurd (subst T (bit_past n w i h (omega arith)) t)

-- a row that has a pair is a row of the table
pub row_below : (rows : List ℕ) (x y : ℕ) → T (bit (get_or rows x 0) y) → x < length rows
row_below rows x y t = go (dec_lt x (length rows))
  where
    go : Dec (x < length rows) → x < length rows
    go (yes l) = l
    go (no l) = absurd (subst T (ap (λ (w : ℕ). bit w y) (get_or-eq_default rows 0 {n = x} (omega arith)) ∙ bit_none y) t)

pub meets_at : (v w i : ℕ) → T (bit v i) → T (bit w i) → T (meets v w)
unfolding meets
meets_at v w i s t = go (eqb (bit_and v w) 0) refl
  where
    common : T (bit (bit_and v w) i)
    common = subst T (sym (bit_of_and v w i)) (and_both (bit v i) (bit w i) s t)

    go : (b : Bool) → eqb (bit_and v w) 0 ≡ b → T (not b)
    go true e = subst T (ap (λ (x : ℕ). bit x i) (eqb-true (bit_and v w) 0 e) ∙ bit_none i) common
    go false e = tt

-- the least bit in common
pub meets_least : (v w : ℕ) → w < 2 ^ 64 → T (meets v w) → T (bit v (least 64 0 (bit (bit_and v w)))) × T (bit w (least 64 0 (bit (bit_and v w))))
unfolding meets
meets_least v w h t =
    let c : ℕ = least 64 0 (bit (bit_and v w)) in
    let s : T (bit v c && bit w c) = subst T (bit_of_and v w c) (true_is (bit (bit_and v w) c) (least_set (bit_and v w) (lt_of_le_of_lt (and_le_r v w) h) (is_false (eqb (bit_and v w) 0) t))) in
    (and_left (bit v c) (bit w c) s, and_right (bit v c) (bit w c) s)

pub length_way : (rows : List ℕ) (near : ℕ → ℕ) (n x : ℕ) → length (way rows near n x) ≡ n
unfolding way
length_way rows near zero x = refl
length_way rows near (suc n) x = ap suc (length_way rows near n (next rows (near n) x))

-- levels that agree give one way
pub way_same : (rows : List ℕ) (near far : ℕ → ℕ) (n x : ℕ) → ((k : ℕ) → k < n → near k ≡ far k) → way rows near n x ≡ way rows far n x
unfolding way
way_same rows near far zero x e = refl
way_same rows near far (suc n) x e = rw (e n (omega arith), way_same rows near far n (next rows (far n) x) (λ k l. e k (omega arith)))

module _ (rows : List ℕ) (b : ℕ) (few : length rows ≤ 64) (inside : b < length rows) where
  -- ---- levels

  level_lt : (k : ℕ) → level rows b k < 2 ^ length rows
  unfolding level before
  level_lt zero = with_lt (length rows) 0 b few (pow_pos (length rows)) inside
  level_lt (suc k) = or_lt (length rows) (level rows b k) (before rows (level rows b k)) (level_lt k) (word_lt (length rows) 0 (λ x. meets (get_or rows x 0) (level rows b k)))

  level_element : (k x : ℕ) → T (bit (level rows b k) x) → x < length rows
  level_element k x t = bit_within (length rows) (level rows b k) x (level_lt k) t

  -- b alone is in the first level
  pub level_first : T (bit (level rows b 0) b)
  unfolding level
  level_first = subst T (sym (bit_with 0 b b (omega arith))) (or_right (bit 0 b) (eqb b b) (eqb_refl b))

  level_only : (x : ℕ) → T (bit (level rows b 0) x) → x ≡ b
  unfolding level
  level_only x t =
      let l : x < length rows = level_element 0 x t in
      ⊎_elim (λ s. absurd (subst T (bit_none x) s)) (λ s. sym (eqb→eq b x s)) (or_cases (bit 0 x) (eqb b x) (subst T (bit_with 0 b x (omega arith)) t))

  -- what the next level has more are the elements with a pair into it
  level_more : (k x : ℕ) → T (bit (level rows b (suc k)) x) → T (bit (level rows b k) x) ⊎ T (meets (get_or rows x 0) (level rows b k))
  unfolding level before
  level_more k x t =
      ⊎_elim inl (λ s. inr (subst T (word_bit (length rows) (λ x. meets (get_or rows x 0) (level rows b k)) x (level_element (suc k) x t)) s))
      (or_cases (bit (level rows b k) x) (bit (before rows (level rows b k)) x) (subst T (bit_of_or (level rows b k) (before rows (level rows b k)) x) t))

  pub level_joins : (k x : ℕ) → x < length rows → T (meets (get_or rows x 0) (level rows b k)) → T (bit (level rows b (suc k)) x)
  unfolding level before
  level_joins k x l t =
      subst T (sym (bit_of_or (level rows b k) (before rows (level rows b k)) x))
      (or_right (bit (level rows b k) x) (bit (before rows (level rows b k)) x) (subst T (sym (word_bit (length rows) (λ x. meets (get_or rows x 0) (level rows b k)) x l)) t))

  level_up : (j k x : ℕ) → j ≤ k → T (bit (level rows b j) x) → T (bit (level rows b k) x)
  unfolding level
  level_up j zero x h t = let e : j ≡ 0 = omega arith in subst (λ (m : ℕ). T (bit (level rows b m) x)) e t
  level_up j (suc k) x h t =
      ⊎_elim
      (λ e. subst (λ (m : ℕ). T (bit (level rows b m) x)) e t)
      (λ l. subst T (sym (bit_of_or (level rows b k) (before rows (level rows b k)) x)) (or_left (bit (level rows b k) x) (bit (before rows (level rows b k)) x) (level_up j k x (le_of_suc-le-suc l) t)))
      (eq-or-lt_of_le h)

  -- ---- the way

  abbrev after : ℕ → ℕ → ℕ
  after k x = next rows (level rows b k) x

  abbrev met : ℕ → ℕ → Bool
  met k x = meets (get_or rows x 0) (level rows b k)

  -- level k is the first that x has a pair into
  pub record Ready (k x : ℕ) : Type 0 where
    pub meets_it : T (met k x)
    pub not_before : (j : ℕ) → j < k → T (not (met j x))

  step_pair : (k x : ℕ) → T (met k x) → T (bit (get_or rows x 0) (after k x)) × T (bit (level rows b k) (after k x))
  unfolding next
  step_pair k x t = meets_least (get_or rows x 0) (level rows b k) (lt_of_lt_of_le (level_lt k) (pow_mono few)) t

  -- the next element of the way is in no lower level
  step_out : (k x j : ℕ) → Ready k x → j < k → T (not (bit (level rows b j) (after k x)))
  step_out k x j r l = not_T (bit (level rows b j) (after k x))
      (λ t. not_both (met j x) (meets_at (get_or rows x 0) (level rows b j) (after k x) (step_pair k x r.meets_it).0 t) (r.not_before j l))

  step_ready : (k x : ℕ) → Ready (suc k) x → Ready k (after (suc k) x)
  step_ready k x r =
      let c = after (suc k) x in
      let s : T (bit (level rows b (suc k)) c) = (step_pair (suc k) x r.meets_it).1 in
      record {
        meets_it = ⊎_elim (λ t. absurd (not_both (bit (level rows b k) c) t (step_out (suc k) x k r (omega arith)))) (λ t. t) (level_more k c s);
        not_before = λ j l. not_T (met j c) (λ t. not_both (bit (level rows b (suc j)) c) (level_joins j c (level_element (suc k) c s) t) (step_out (suc k) x (suc j) r (omega arith)));
      }

  -- the numbers of the way from x through level k and those below, with x
  abbrev pub chain_down : ℕ → ℕ → List ℕ
  chain_down k x = x ∷ way rows (level rows b) (suc k) x

  down_last : (k x : ℕ) → Ready k x → get_or (chain_down k x) (suc k) 0 ≡ b
  unfolding way
  down_last zero x r = level_only (after 0 x) (step_pair 0 x r.meets_it).1
  down_last (suc k) x r = down_last k (after (suc k) x) (step_ready k x r)

  down_pairs : (k x : ℕ) → Ready k x → (i : ℕ) → i ≤ k → T (bit (get_or rows (get_or (chain_down k x) i 0) 0) (get_or (chain_down k x) (suc i) 0))
  unfolding way
  down_pairs k x r zero h = (step_pair k x r.meets_it).0
  down_pairs zero x r (suc i) h = absurd (omega arith)
  down_pairs (suc k) x r (suc i) h = down_pairs k (after (suc k) x) (step_ready k x r) i (le_of_suc-le-suc h)

  -- each number of the way but the last is ready for its own level
  down_ready : (k x : ℕ) → Ready k x → (i : ℕ) → i ≤ k → Ready (k - i) (get_or (chain_down k x) i 0)
  unfolding way
  down_ready k x r zero h = let e : k ≡ k - 0 = omega arith in subst (λ (m : ℕ). Ready m x) e r
  down_ready zero x r (suc i) h = absurd (omega arith)
  down_ready (suc k) x r (suc i) h =
      let e : k - i ≡ suc k - suc i = omega arith in
      subst (λ (m : ℕ). Ready m (get_or (chain_down k (after (suc k) x)) i 0)) e (down_ready k (after (suc k) x) (step_ready k x r) i (le_of_suc-le-suc h))

  -- and in no lower one
  down_out : (k x : ℕ) → Ready k x → (i : ℕ) → i < k → T (not (bit (level rows b 0) (get_or (chain_down k x) (suc i) 0)))
  unfolding way
  down_out zero x r i h = absurd (omega arith)
  down_out (suc k) x r zero h = step_out (suc k) x 0 r (omega arith)
  down_out (suc k) x r (suc i) h = down_out k (after (suc k) x) (step_ready k x r) i (le_of_suc-le-suc h)

  -- no number comes twice except that the last may equal the first
  down_once : (k x : ℕ) → Ready k x → (i j : ℕ) → i < j → j < suc (suc k) → get_or (chain_down k x) i 0 ≡ get_or (chain_down k x) j 0 → (i ≡ 0) × (j ≡ suc k)
  down_once k x r i j h l e = go (dec_lt j (suc k))
    where
      -- the last is b, which no other after the first is
      at_last : (i : ℕ) → i < suc k → get_or (chain_down k x) i 0 ≡ b → i ≡ 0
      at_last zero m d = refl
      at_last (suc i) m d = absurd (not_both (bit (level rows b 0) (get_or (chain_down k x) (suc i) 0)) (subst (λ (y : ℕ). T (bit (level rows b 0) y)) (sym d) level_first) (down_out k x r i (le_of_suc-le-suc m)))

      go : Dec (j < suc k) → (i ≡ 0) × (j ≡ suc k)
      go (yes m) =
          absurd
          (not_both (met (k - j) (get_or (chain_down k x) i 0)) (subst (λ (y : ℕ). T (met (k - j) y)) (sym e) (down_ready k x r j (omega arith)).meets_it)
          ((down_ready k x r i (omega arith)).not_before (k - j) (omega arith)))
      go (no m) = let q : j ≡ suc k = omega arith in (at_last i (omega arith) (e ∙ ap (λ (y : ℕ). get_or (chain_down k x) y 0) q ∙ down_last k x r), q)

  -- a chain of the table's pairs
  pub down_chain : (k x : ℕ) → Ready k x → IsChain (λ x y. bit (get_or rows x 0) y) x b (chain_down k x)
  down_chain k x r =
      let n : length (way rows (level rows b) (suc k) x) ≡ suc k = length_way rows (level rows b) (suc k) x in
      record {
        two = omega arith;
        first = refl;
        last = let m : length (chain_down k x) - 1 ≡ suc k = omega arith in ap (λ (i : ℕ). get_or (chain_down k x) i 0) m ∙ down_last k x r;
        pairs = λ i h. down_pairs k x r i (omega arith);
        once = λ i j h l e. let (p, q) = down_once k x r i j h (omega arith) e in (p, omega arith);
      }

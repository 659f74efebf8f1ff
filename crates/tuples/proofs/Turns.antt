-- A table's words, a tuple's number, bit and digits, one element a turn.
use Prim.Native.Nat.{ℕ, zero, suc, ◌+◌, ◌-◌, ◌*◌, ◌/◌, ◌%◌, ◌^◌, ◌<◌, ◌≤◌}
use mathlib.Core.Path.{◌≡◌, refl, sym, ap, ap₂, ◌∙◌}
use mathlib.Core.List.{List, [], ◌∷◌, ◌++◌, append_assoc, append-nil}
use native.Mathlib.Nat.{le_trans, pow-zero, pow-le-pow_left, pow-le-pow_right, mul_comm, pow-suc, not-suc-le-zero, le_of_suc-le-suc, zero-mul, mul-le-mul_left, lt_of_le_of_lt, zero-lt-suc}
use native.Mathlib.Omega.{arith}
use native.Mathlib.Numerals.{add-one}
use lib.Arith.{digits_lt}
use lib.ListN.{length, get_or, set, take, drop, length-set}
use lib.Seq.{drop-cons, get_or-set_same, drop-set-lt}
use Rattle.definition.specs.Tables.{table_words}
use Rattle.tuples.specs.Places.{digits, bit_at}
use Rattle.tuples.proofs.Digits.{words_pow}

pub words_one : (u : ℕ) → 1 ≡ table_words u 1
unfolding table_words
words_one u = refl

pub words_step : (u k words : ℕ) → 1 ≤ k → words ≡ table_words u k → u * words ≡ table_words u (k + 1)
unfolding table_words
words_step u zero words h e = absurd (not-suc-le-zero h)
words_step u (suc k) words h e = ap (λ (n : ℕ). u * n) e ∙ ap (table_words u) (sym (add-one (suc k)))

pub words_end : (u n k : ℕ) → 1 ≤ k → n ≤ k → k ≤ suc (n - 1) → table_words u k ≡ table_words u n
unfolding table_words
words_end u zero k h l m = ap (table_words u) {x = k} {y = 1} (omega arith)
words_end u (suc n) k h l m = ap (table_words u) {x = k} {y = suc n} (omega arith)

-- tables of up to 4 columns over at most b elements are small
pub words_le : (u b n : ℕ) → u ≤ b → 0 < b → n ≤ 4 → table_words u n ≤ b ^ 3
unfolding table_words
words_le u b zero h l m = pow_pos_le b 3 l
  where
    pow_pos_le : (b k : ℕ) → 0 < b → 1 ≤ b ^ k
    pow_pos_le b k l = rw (← pow-zero b) (pow-le-pow_right l (omega arith))
words_le u b (suc n) h l m = rw words_pow (le_trans (pow-le-pow_left h n) (pow-le-pow_right l (le_of_suc-le-suc m)))

pub bit_last : (n : ℕ) (t : List ℕ) → n < length t → get_or t n 0 ≡ bit_at (take (suc n) t)
bit_last n [] h = absurd (not-suc-le-zero h)
bit_last zero (a ∷ t) h = refl
bit_last (suc n) (a ∷ []) h = absurd (not-suc-le-zero (le_of_suc-le-suc h))
bit_last (suc n) (a ∷ b ∷ t) h = bit_last n (b ∷ t) (le_of_suc-le-suc h)

pub step_lt : (u w k a : ℕ) → u < 256 → w < 256 ^ k → a < 256 → u * w + a < 256 ^ (k + 1)
step_lt u w k a h l m = rw (add-one, pow-suc) (lt_of_le_of_lt le (digits_lt l m))
  where
    le256 : w * u ≤ w * 256
    le256 = mul-le-mul_left w (omega arith)

    le : u * w + a ≤ w * 256 + a
    le = omega (arith, mul_comm u w, le256)

-- the digits left to find, and those found
pub digit_step : (u k m rest : ℕ) (t : List ℕ) → k < length t
    → digits u (suc k) rest ++ take m (drop (suc k) t) ≡ digits u k (rest / u) ++ take (suc m) (drop k (set t k (rest % u)))
unfolding digits
digit_step u k m rest t h =
    append_assoc (digits u k (rest / u)) (rest % u ∷ []) (take m (drop (suc k) t))
    ∙ ap (λ (s : List ℕ). digits u k (rest / u) ++ take (suc m) s) (sym d)
  where
    d : drop k (set t k (rest % u)) ≡ rest % u ∷ drop (suc k) t
    d = drop-cons (set t k (rest % u)) k 0 (rw length-set h) ∙ ap₂ ◌∷◌ (get_or-set_same t k (rest % u) 0 h) (drop-set-lt (suc k) t k (rest % u) (omega arith))

pub digits_whole : (u n i : ℕ) (t : List ℕ) → digits u n i ++ take (n - n) (drop n t) ≡ digits u n i
digits_whole u n i t = ap (λ (m : ℕ). digits u n i ++ take m (drop n t)) z ∙ append-nil (digits u n i)
  where
    z : n - n ≡ 0
    z = omega arith

pub digits_none : (u k n rest : ℕ) (t : List ℕ) → k ≡ 0 → digits u k rest ++ take (n - k) (drop k t) ≡ take n t
unfolding digits
digits_none u k n rest t e =
    ap (λ (j : ℕ). digits u j rest ++ take (n - j) (drop j t)) e ∙ ap (λ (m : ℕ). take m t) z
  where
    z : n - 0 ≡ n
    z = omega arith

pub base_pos : (u n i : ℕ) → i < u ^ n → 0 < n → 0 < u
base_pos zero zero i h l = absurd (not-suc-le-zero l)
base_pos zero (suc n) i h l = absurd (not-suc-le-zero (rw (pow-suc, mul_comm, zero-mul) at h))
base_pos (suc u) n i h l = zero-lt-suc u

-- what a loop over the first n elements has left at k
pub rest_cons : (n k : ℕ) (l : List ℕ) → k < n → n ≤ length l → take (n - k) (drop k l) ≡ get_or l k 0 ∷ take (n - (k + 1)) (drop (k + 1) l)
rest_cons n k l h m =
    ap₂ take e (drop-cons l k 0 (omega arith)) ∙ ap (λ (j : ℕ). get_or l k 0 ∷ take (n - (k + 1)) (drop j l)) (sym (add-one k))
  where
    e : n - k ≡ suc (n - (k + 1))
    e = omega arith

pub rest_none : (n k : ℕ) (l : List ℕ) → n ≤ k → take (n - k) (drop k l) ≡ []
rest_none n k l h = ap (λ (j : ℕ). take j (drop k l)) e
  where
    e : n - k ≡ 0
    e = omega arith

pub rest_all : (n : ℕ) (l : List ℕ) → take (n - 0) (drop 0 l) ≡ take n l
rest_all n l = ap (λ (j : ℕ). take j l) e
  where
    e : n - 0 ≡ n
    e = omega arith

-- The laws of a word's bits.
use Prim.Native.Nat.{ℕ, zero, suc, ◌+◌, ◌*◌, ◌/◌, ◌%◌, ◌^◌, ◌<◌, ◌≤◌, suc-le-suc}
use mathlib.Core.Path.{◌≡◌, refl, sym, ap, ap₂, ◌∙◌}
use mathlib.Core.Logic.{◌⊎◌, inl, inr, ⊎_elim}
use mathlib.Core.Bool.{Bool, true, false, ◌||◌, ◌&&◌, cond}
use native.Mathlib.Nat.{le_of_suc-le-suc, not-suc-le-zero, zero-lt-suc, le_refl, mod-lt, zero-div, div-one, pow-suc, pow-succ', div-div-eq-div-mul, div-eq_of_lt, div-add-mod', mul-mod_left, mul-div_cancel, div-lt_iff_lt-mul, lt_of_lt_of_le, eq-or-lt_of_le, lt-suc_self, le-suc, le_of_eq, one-mul, le-add_right, lt_of_le_of_lt, div-le_self, zero-add}
use native.Mathlib.Omega.{arith}
use borrow.Author.Tests.{eq-eqb, ne_eqb, ltb-true, ltb-false}
use lib.Dec.{eqb, ltb, eqb-suc-suc, eqb-zero-suc, eqb-suc-zero}
use lib.Bits.{bit_or, bit_and, or_shr, or_mod, or_lt, and_shr, and_mod}
use lib.Pow.{pow-lt, pow_mono, pow_pos, shr-shr}
use lib.Arith.{digits_lt, lt-one}
use Rattle.definition.specs.Tables.{bit, word}
use Rattle.definition.proofs.TableLaws.{bit_word}
use Rattle.bits.specs.Bits.{with_bit}

-- ---- one digit

two : (r : ℕ) → r < 2 → (r ≡ 0) ⊎ (r ≡ 1)
two zero h = inl refl
two (suc zero) h = inr refl
two (suc (suc r)) h = absurd (not-suc-le-zero (le_of_suc-le-suc (le_of_suc-le-suc h)))

digit_or : (r s : ℕ) → r < 2 → s < 2 → eqb (bit_or r s) 1 ≡ eqb r 1 || eqb s 1
digit_or r s hr hs = go (two r hr) (two s hs)
  where
    go : (r ≡ 0) ⊎ (r ≡ 1) → (s ≡ 0) ⊎ (s ≡ 1) → eqb (bit_or r s) 1 ≡ eqb r 1 || eqb s 1
    go (inl p) (inl q) = rw (p, q)
    go (inl p) (inr q) = rw (p, q)
    go (inr p) (inl q) = rw (p, q)
    go (inr p) (inr q) = rw (p, q)

digit_and : (r s : ℕ) → r < 2 → s < 2 → eqb (bit_and r s) 1 ≡ eqb r 1 && eqb s 1
digit_and r s hr hs = go (two r hr) (two s hs)
  where
    go : (r ≡ 0) ⊎ (r ≡ 1) → (s ≡ 0) ⊎ (s ≡ 1) → eqb (bit_and r s) 1 ≡ eqb r 1 && eqb s 1
    go (inl p) (inl q) = rw p
    go (inl p) (inr q) = rw p
    go (inr p) (inl q) = rw (p, q)
    go (inr p) (inr q) = rw (p, q)

digit_eq : (r s : ℕ) → r < 2 → s < 2 → eqb r 1 ≡ eqb s 1 → r ≡ s
digit_eq r s hr hs e = go (two r hr) (two s hs)
  where
    go : (r ≡ 0) ⊎ (r ≡ 1) → (s ≡ 0) ⊎ (s ≡ 1) → r ≡ s
    go (inl p) (inl q) = cc
    go (inl p) (inr q) = let z : false ≡ true = rw (p, q) at e in cc
    go (inr p) (inl q) = let z : true ≡ false = rw (p, q) at e in cc
    go (inr p) (inr q) = cc

two_pos : 0 < 2
two_pos = zero-lt-suc 1

-- ---- the bits of words

pub bit_of_or : (w v i : ℕ) → bit (bit_or w v) i ≡ bit w i || bit v i
unfolding bit
bit_of_or w v i =
    ap (λ (x : ℕ). eqb (x % 2) 1) (or_shr w v i) ∙ ap (λ (x : ℕ). eqb x 1) (or_mod (w / 2 ^ i) (v / 2 ^ i) 1)
    ∙ digit_or (w / 2 ^ i % 2) (v / 2 ^ i % 2) (mod-lt (w / 2 ^ i) two_pos) (mod-lt (v / 2 ^ i) two_pos)

pub bit_of_and : (w v i : ℕ) → bit (bit_and w v) i ≡ bit w i && bit v i
unfolding bit
bit_of_and w v i =
    ap (λ (x : ℕ). eqb (x % 2) 1) (and_shr w v i) ∙ ap (λ (x : ℕ). eqb x 1) (and_mod (w / 2 ^ i) (v / 2 ^ i) 1)
    ∙ digit_and (w / 2 ^ i % 2) (v / 2 ^ i % 2) (mod-lt (w / 2 ^ i) two_pos) (mod-lt (v / 2 ^ i) two_pos)

pub bit_suc : (w i : ℕ) → bit w (suc i) ≡ bit (w / 2) i
unfolding bit
bit_suc w i = ap (λ (x : ℕ). eqb (x % 2) 1) (ap (λ (x : ℕ). w / x) (pow-succ' 2 i) ∙ sym (div-div-eq-div-mul w 2 (2 ^ i)))

pub bit_zero : (w : ℕ) → bit w 0 ≡ eqb (w % 2) 1
unfolding bit
bit_zero w = ap (λ (x : ℕ). eqb (x % 2) 1) (div-one w)

-- no bit of 0 is set
pub bit_none : (i : ℕ) → bit 0 i ≡ false
unfolding bit
bit_none i = ap (λ (x : ℕ). eqb (x % 2) 1) (zero-div (2 ^ i))

-- nor one past the word's length
pub bit_past : (k w i : ℕ) → w < 2 ^ k → k ≤ i → bit w i ≡ false
unfolding bit
bit_past k w i h l = ap (λ (x : ℕ). eqb (x % 2) 1) (div-eq_of_lt (lt_of_lt_of_le h (pow_mono l)))

-- 2 ^ k has bit k alone
pub bit_pow : (k i : ℕ) → bit (2 ^ k) i ≡ eqb k i
bit_pow zero zero = bit_zero 1
bit_pow zero (suc i) = bit_suc 1 i ∙ bit_none i ∙ sym (eqb-zero-suc i)
bit_pow (suc k) zero = bit_zero (2 ^ suc k) ∙ ap (λ (x : ℕ). eqb (x % 2) 1) (pow-suc 2 k) ∙ ap (λ (x : ℕ). eqb x 1) (mul-mod_left (2 ^ k) 2) ∙ sym (eqb-suc-zero k)
bit_pow (suc k) (suc i) =
    bit_suc (2 ^ suc k) i ∙ ap (λ (x : ℕ). bit (x / 2) i) (pow-suc 2 k) ∙ ap (λ (x : ℕ). bit x i) (mul-div_cancel (2 ^ k) two_pos) ∙ bit_pow k i
    ∙ sym (eqb-suc-suc k i)

half_lt : (k a : ℕ) → a < 2 ^ suc k → a / 2 < 2 ^ k
half_lt k a h = (div-lt_iff_lt-mul two_pos).1 (rw pow-suc at h)

-- two words of k bits with the same bits are equal
pub bits_ext : (k a b : ℕ) → a < 2 ^ k → b < 2 ^ k → ((i : ℕ) → i < k → bit a i ≡ bit b i) → a ≡ b
bits_ext zero a b ha hb h = lt-one ha ∙ sym (lt-one hb)
bits_ext (suc k) a b ha hb h =
    sym (div-add-mod' a 2)
    ∙ ap₂ (λ (x y : ℕ). x * 2 + y)
    (bits_ext k (a / 2) (b / 2) (half_lt k a ha) (half_lt k b hb) (λ i l. sym (bit_suc a i) ∙ h (suc i) (suc-le-suc l) ∙ bit_suc b i))
    (digit_eq (a % 2) (b % 2) (mod-lt a two_pos) (mod-lt b two_pos) (sym (bit_zero a) ∙ h 0 (zero-lt-suc k) ∙ bit_zero b))
    ∙ div-add-mod' b 2

lt_or_le : (a b : ℕ) → (a < b) ⊎ (b ≤ a)
lt_or_le a b = go (ltb a b) refl
  where
    go : (t : Bool) → ltb a b ≡ t → (a < b) ⊎ (b ≤ a)
    go true e = inl (ltb-true a b e)
    go false e = inr (ltb-false a b e)

bit_high : (w k i : ℕ) → bit (w / 2 ^ k) i ≡ bit w (k + i)
unfolding bit
bit_high w k i = ap (λ (x : ℕ). eqb (x % 2) 1) (shr-shr w k i)

-- a word whose bits from k on are not set is below 2 ^ k
pub bits_lt : (n k w : ℕ) → w < 2 ^ n → ((i : ℕ) → k ≤ i → i < n → bit w i ≡ false) → w < 2 ^ k
bits_lt n k w h z = rw one-mul at ((div-lt_iff_lt-mul (pow_pos k)).0 (le_of_eq (ap suc none)))
  where
    pick : (i : ℕ) → (k + i < n) ⊎ (n ≤ k + i) → bit w (k + i) ≡ false
    pick i (inl l) = z (k + i) (le-add_right k i) l
    pick i (inr l) = bit_past n w (k + i) h l

    none : w / 2 ^ k ≡ 0
    none = bits_ext n (w / 2 ^ k) 0 (lt_of_le_of_lt (div-le_self w (2 ^ k)) h) (pow_pos n) (λ i l. bit_high w k i ∙ pick i (lt_or_le (k + i) n) ∙ sym (bit_none i))

-- ---- a word made of a test

digit_lt : (b : Bool) → cond b 1 0 < 2
digit_lt true = le_refl 2
digit_lt false = zero-lt-suc 1

pub word_lt : (n a : ℕ) (f : ℕ → Bool) → word n a f < 2 ^ n
unfolding word
word_lt zero a f = le_refl 1
word_lt (suc n) a f = rw pow-suc (digits_lt (word_lt n (suc a) f) (digit_lt (f a)))

pub word_bit : (n : ℕ) (f : ℕ → Bool) (i : ℕ) → i < n → bit (word n 0 f) i ≡ f i
word_bit n f i h = bit_word n 0 f i h ∙ ap f (zero-add i)

-- a word of n bits is the one that its bits make
pub word_ext : (n w : ℕ) (f : ℕ → Bool) → w < 2 ^ n → ((i : ℕ) → i < n → bit w i ≡ f i) → w ≡ word n 0 f
word_ext n w f h e = bits_ext n w (word n 0 f) h (word_lt n 0 f) (λ i l. e i l ∙ sym (word_bit n f i l))

-- two tests that agree below n make one word
pub word_same : (n : ℕ) (f g : ℕ → Bool) → ((i : ℕ) → i < n → f i ≡ g i) → word n 0 f ≡ word n 0 g
word_same n f g e = word_ext n (word n 0 f) g (word_lt n 0 f) (λ i l. word_bit n f i l ∙ e i l)

-- ---- a word with one bit more

or_false : (b : Bool) → b || false ≡ b
or_false true = refl
or_false false = refl

-- below 64 it is the or with a power
pub with_or : (w b : ℕ) → w < 2 ^ 64 → b < 64 → bit_or w (2 ^ b) ≡ with_bit w b
unfolding with_bit
with_or w b h l =
    word_ext 64 (bit_or w (2 ^ b)) (λ i. bit w i || eqb b i) (or_lt 64 w (2 ^ b) h (pow-lt l))
    (λ i m. bit_of_or w (2 ^ b) i ∙ ap (λ (x : Bool). bit w i || x) (bit_pow b i))

-- from 64 on it is the word itself
pub with_past : (w b : ℕ) → w < 2 ^ 64 → 64 ≤ b → w ≡ with_bit w b
unfolding with_bit
with_past w b h l =
    word_ext 64 w (λ i. bit w i || eqb b i) h
    (λ i m. sym (ap (λ (x : Bool). bit w i || x) (ne_eqb b i (λ e. omega arith)) ∙ or_false (bit w i)))

-- bit b is set, and every other is as it was
pub bit_with : (w b i : ℕ) → i < 64 → bit (with_bit w b) i ≡ bit w i || eqb b i
unfolding with_bit
bit_with w b i h = word_bit 64 (λ i. bit w i || eqb b i) i h

pub with_lt : (n w b : ℕ) → n ≤ 64 → w < 2 ^ n → b < n → with_bit w b < 2 ^ n
unfolding with_bit
with_lt n w b m h l =
    bits_lt 64 n (word 64 0 (λ i. bit w i || eqb b i)) (word_lt 64 0 (λ i. bit w i || eqb b i))
    (λ i p q. bit_with w b i q ∙ ap₂ (λ (x y : Bool). x || y) (bit_past n w i h p) (ne_eqb b i (λ e. omega arith)))

-- the first n bits of a test, and one bit more
pub word_more : (n : ℕ) (f : ℕ → Bool) → n < 64 → cond (f n) (with_bit (word n 0 f) n) (word n 0 f) ≡ word (suc n) 0 f
word_more n f m = go (f n) refl
  where
    W : ℕ
    W = word n 0 f

    top : (i : ℕ) → i ≡ n → bit W i ≡ false
    top i e = bit_past n W i (word_lt n 0 f) (omega arith)

    wide : W < 2 ^ suc n
    wide = lt_of_lt_of_le (word_lt n 0 f) (pow_mono (le-suc n))

    go : (b : Bool) → f n ≡ b → cond b (with_bit W n) W ≡ word (suc n) 0 f
    go true e =
        word_ext (suc n) (with_bit W n) f (with_lt (suc n) W n m wide (lt-suc_self n))
        (λ i l. bit_with W n i (omega arith)
        ∙ ⊎_elim
        (λ p. ap₂ (λ (x y : Bool). x || y) (top i p) (eq-eqb n i (sym p)) ∙ sym e ∙ ap f (sym p))
        (λ k. ap₂ (λ (x y : Bool). x || y) (word_bit n f i k) (ne_eqb n i (λ q. omega arith)) ∙ or_false (f i))
        (eq-or-lt_of_le (le_of_suc-le-suc l)))
    go false e =
        word_ext (suc n) W f wide
        (λ i l. ⊎_elim (λ p. top i p ∙ sym e ∙ ap f (sym p)) (λ k. word_bit n f i k) (eq-or-lt_of_le (le_of_suc-le-suc l)))

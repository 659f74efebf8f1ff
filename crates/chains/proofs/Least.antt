-- The first number that passes a test, and the least bit of a word.
use Prim.Native.Nat.{ℕ, zero, suc, ◌+◌, ◌-◌, ◌/◌, ◌%◌, ◌^◌, ◌<◌, ◌≤◌}
use mathlib.Core.Path.{◌≡◌, refl, sym, ap, subst, ◌∙◌}
use mathlib.Core.Bool.{Bool, true, false, cond}
use native.Mathlib.Omega.{arith}
use native.Mathlib.Decide.{dec_lt}
use native.Mathlib.Numerals.{add-one}
use borrow.Author.Tests.{eq-eqb, ne_eqb}
use lib.Count.{count_trailing_zeros, under}
use lib.Dec.{T, eqb}
use lib.Pow.{pow_pos}
use Rattle.definition.specs.Tables.{bit}
use Rattle.definition.proofs.BoolLaws.{apart}
use Rattle.bits.proofs.Laws.{bit_none, bit_suc, bit_zero, bits_ext}
use Rattle.chains.specs.Levels.{least}

pub least_le : (n a : ℕ) (f : ℕ → Bool) → least n a f ≤ a + n
unfolding least
least_le zero a f = omega arith
least_le (suc n) a f = go (f a) (least_le n (suc a) f)
  where
    go : (t : Bool) → least n (suc a) f ≤ suc a + n → cond t a (least n (suc a) f) ≤ a + suc n
    go true h = omega arith
    go false h = omega arith

-- the number found passes
pub least_passes : (n a : ℕ) (f : ℕ → Bool) → least n a f < a + n → f (least n a f) ≡ true
unfolding least
least_passes zero a f h = absurd (omega arith)
least_passes (suc n) a f h = go (f a) refl h (least_passes n (suc a) f)
  where
    go : (t : Bool) → f a ≡ t → cond t a (least n (suc a) f) < a + suc n → (least n (suc a) f < suc a + n → f (least n (suc a) f) ≡ true) → f (cond t a (least n (suc a) f)) ≡ true
    go true e l ih = e
    go false e l ih = ih (omega arith)

-- and none before it does
pub least_fails : (n a : ℕ) (f : ℕ → Bool) (j : ℕ) → a ≤ j → j < least n a f → f j ≡ false
unfolding least
least_fails zero a f j h l = absurd (omega arith)
least_fails (suc n) a f j h l = go (f a) refl l (dec_lt a j) (least_fails n (suc a) f j)
  where
    go : (t : Bool) → f a ≡ t → j < cond t a (least n (suc a) f) → Dec (a < j) → (suc a ≤ j → j < least n (suc a) f → f j ≡ false) → f j ≡ false
    go true e l d ih = absurd (omega arith)
    go false e l (yes d) ih = ih (omega arith) l
    go false e l (no d) ih = let s : j ≡ a = omega arith in ap f s ∙ e

-- so what passes is not smaller
pub least_first : (n a : ℕ) (f : ℕ → Bool) (j : ℕ) → a ≤ j → T (f j) → least n a f ≤ j
least_first n a f j h t = go (dec_lt j (least n a f))
  where
    go : Dec (j < least n a f) → least n a f ≤ j
    go (yes l) = absurd (subst T (least_fails n a f j h l) t)
    go (no l) = omega arith

-- tests that agree find the same
pub least_same : (n a : ℕ) (f g : ℕ → Bool) → ((i : ℕ) → a ≤ i → i < a + n → f i ≡ g i) → least n a f ≡ least n a g
unfolding least
least_same zero a f g e = refl
least_same (suc n) a f g e = rw (e a (omega arith) (omega arith), least_same n (suc a) f g (λ i h l. e i (omega arith) (omega arith)))

-- a search from the front, with n numbers left from a on
pub record Seeking (n : ℕ) (f : ℕ → Bool) (a : ℕ) : Type 0 where
  pub within : a ≤ n
  pub left : (m : ℕ) → a + m ≡ n → least m a f ≡ least n 0 f

pub seek_none : (n : ℕ) (f : ℕ → Bool) → Seeking n f 0
seek_none n f = record { within = omega arith; left = λ m e. ap (λ (k : ℕ). least k 0 f) (omega arith) }

pub seek_more : (n : ℕ) (f : ℕ → Bool) (a : ℕ) → Seeking n f a → a < n → f a ≡ false → Seeking n f (a + 1)
unfolding least
seek_more n f a s h e =
    record {
      within = omega arith;
      left = λ m d. ap (λ (k : ℕ). least m k f) (add-one a) ∙ sym (ap (λ (t : Bool). cond t a (least m (suc a) f)) e) ∙ s.left (suc m) (omega arith);
    }

pub seek_here : (n : ℕ) (f : ℕ → Bool) (a : ℕ) → Seeking n f a → a < n → f a ≡ true → a ≡ least n 0 f
unfolding least
seek_here n f a s h e = at n (omega arith) s.left
  where
    at : (n : ℕ) → a < n → ((m : ℕ) → a + m ≡ n → least m a f ≡ least n 0 f) → a ≡ least n 0 f
    at zero h l = absurd (omega arith)
    at (suc n) h l = sym (ap (λ (t : Bool). cond t a (least (suc n - suc a) (suc a) f)) e) ∙ l (suc (suc n - suc a)) (omega arith)

pub seek_past : (n : ℕ) (f : ℕ → Bool) (a : ℕ) → Seeking n f a → n ≤ a → a ≡ least n 0 f
unfolding least
seek_past n f a s h = s.left 0 (let w = s.within in omega arith)

-- a word that is not 0 has a least bit
pub least_set : (w : ℕ) → w < 2 ^ 64 → eqb w 0 ≡ false → bit w (least 64 0 (bit w)) ≡ true
least_set w h n = go (dec_lt (least 64 0 (bit w)) 64)
  where
    zero_word : (64 ≤ least 64 0 (bit w)) → w ≡ 0
    zero_word l = bits_ext 64 w 0 h (pow_pos 64) (λ i m. least_fails 64 0 (bit w) i (omega arith) (omega arith) ∙ sym (bit_none i))

    go : Dec (least 64 0 (bit w) < 64) → bit w (least 64 0 (bit w)) ≡ true
    go (yes l) = least_passes 64 0 (bit w) l
    go (no l) = absurd (apart (sym (eq-eqb w 0 (zero_word (omega arith))) ∙ n))

-- the trailing zeros of a word are below its least bit
least_shift : (n a : ℕ) (f : ℕ → Bool) → least n (suc a) f ≡ suc (least n a (λ i. f (suc i)))
unfolding least
least_shift zero a f = refl
least_shift (suc n) a f = go (f (suc a)) (least_shift n (suc a) f)
  where
    go : (t : Bool) → least n (suc (suc a)) f ≡ suc (least n (suc a) (λ i. f (suc i))) → cond t (suc a) (least n (suc (suc a)) f) ≡ suc (cond t a (least n (suc a) (λ i. f (suc i))))
    go true e = refl
    go false e = e

pub trailing_least : (k w : ℕ) → count_trailing_zeros k w ≡ least k 0 (bit w)
unfolding count_trailing_zeros least
trailing_least zero w = refl
trailing_least (suc k) w = go (w % 2) refl (least_shift k 0 (bit w) ∙ ap suc (least_same k 0 (λ i. bit w (suc i)) (bit (w / 2)) (λ i h l. bit_suc w i) ∙ sym (trailing_least k (w / 2))))
  where
    go : (d : ℕ) → w % 2 ≡ d → least k 1 (bit w) ≡ suc (count_trailing_zeros k (w / 2)) → under d (count_trailing_zeros k (w / 2)) ≡ cond (bit w 0) 0 (least k 1 (bit w))
    go zero e r = sym (ap (λ (t : Bool). cond t 0 (least k 1 (bit w))) (bit_zero w ∙ ne_eqb (w % 2) 1 (λ z. omega arith)) ∙ r)
    go (suc d) e r = sym (ap (λ (t : Bool). cond t 0 (least k 1 (bit w))) (bit_zero w ∙ eq-eqb (w % 2) 1 (omega arith)))

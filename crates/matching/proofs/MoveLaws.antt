-- Loops that fill a word, bit by bit.
use mathlib.Core.Path.{◌≡◌, refl, sym, ap, ◌∙◌, subst, subst⁻¹}
use mathlib.Core.Bool.{Bool, true, false, not, cond}
use Prim.Native.Nat.{ℕ, ◌+◌, ◌*◌, ◌^◌, ◌<◌}
use native.Mathlib.Numerals.{add-one}
use native.Mathlib.Omega.{arith}
use native.Mathlib.Decide.{dec_lt}
use native.Mathlib.Nat.{lt_trans}
use lib.Bits.{bit_and}
use lib.Pow.{pow-lt}
use lib.ListN.{length, get_or}
use Rattle.definition.specs.Text.{Text}
use Rattle.definition.specs.Tables.{word}
use Rattle.bits.specs.Bits.{with_bit}
use Rattle.bits.proofs.Laws.{word_lt, word_more}
use Rattle.matching.specs.Images.{all}
use Rattle.matching.specs.Bytes.{is_held, fits, fitting, moved}

pub word_none : (f : ℕ → Bool) → 0 ≡ word 0 0 f
unfolding word
word_none f = refl

pub word_next : (f : ℕ → Bool) (k r q : ℕ) (on : Bool) → k < 64 → r ≡ word k 0 f → on ≡ f k → q ≡ cond on (with_bit r k) r → q ≡ word (k + 1) 0 f
word_next f k r q on h x y z =
    z ∙ ap (λ b. cond b (with_bit r k) r) y ∙ ap (λ w. cond (f k) (with_bit w k) w) x ∙ word_more k f h ∙ ap (λ n. word n 0 f) (sym (add-one k))

-- bytes that fit
pub fits_complement : (t : Text) (c : Bool) (b : ℕ) (r : Bool) → c ≡ true → r ≡ is_held t b → not r ≡ fits t c b
unfolding fits
fits_complement t c b r q x = ap not x ∙ sym (rw q)

pub fits_plain : (t : Text) (c : Bool) (b : ℕ) (r : Bool) → c ≡ false → r ≡ is_held t b → r ≡ fits t c b
unfolding fits
fits_plain t c b r q x = x ∙ sym (rw q)

pub fitting_end : (e t : Text) (c : Bool) (i r : ℕ) → i ≡ length e → r ≡ word i 0 (λ j. fits t c (get_or e j 0)) → r ≡ fitting e t c
unfolding fitting
fitting_end e t c i r q x = x ∙ ap (λ k. word k 0 (λ j. fits t c (get_or e j 0))) q

pub fitting_lt : (e t : Text) (c : Bool) (r : ℕ) → length e < 64 → r ≡ fitting e t c → r < 2 ^ 63
unfolding fitting
fitting_lt e t c r h q = subst⁻¹ (λ w. w < 2 ^ 63) q (below (length e) (word_lt (length e) 0 (λ i. fits t c (get_or e i 0))) h)
  where
    below : {w : ℕ} (n : ℕ) → w < 2 ^ n → n < 64 → w < 2 ^ 63
    below {w} n l h = go (dec_lt n 63)
      where
        go : Dec (n < 63) → w < 2 ^ 63
        go (yes d) = let m : 2 ^ n < 2 ^ 63 = pow-lt d in lt_trans l m
        go (no d) = subst (λ k. w < 2 ^ k) (let z : n ≡ 63 = omega (arith, d, h) in z) l

pub moved_by : (e t : Text) (c : Bool) (r a : ℕ) → r ≡ fitting e t c → bit_and a r * 2 ≡ moved e a t c
unfolding moved
moved_by e t c r a q = ap (λ w. bit_and a w * 2) q

-- every position
pub all_end : (e : Text) (i r : ℕ) → i ≡ length e + 1 → r ≡ word i 0 (λ j. true) → r ≡ all e
unfolding all
all_end e i r q x = x ∙ ap (λ k. word k 0 (λ j. true)) (q ∙ add-one (length e))

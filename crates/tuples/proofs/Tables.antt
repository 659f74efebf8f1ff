-- Words that are a table's, and a tuple added to a table.
use Prim.Native.Nat.{ℕ, zero, suc, ◌+◌, ◌*◌, ◌/◌, ◌%◌, ◌^◌, ◌<◌, ◌≤◌}
use mathlib.Core.Path.{◌≡◌, refl, sym, ap, ap₂, ◌∙◌, subst}
use mathlib.Core.Bool.{Bool, true, false, ◌||◌, or-false}
use mathlib.Core.List.{List, [], ◌∷◌, ◌++◌, append_assoc}
use mathlib.Core.Logic.{◌⊎◌, inl, inr, ⊎_elim}
use native.Mathlib.Nat.{add-zero, zero-add, add-suc, suc-add, mul_comm, zero-mul, pow-zero, pow-suc, not-suc-le-zero, zero-lt-suc, div-add-mod, div-lt_iff_lt-mul, lt_of_lt_of_le}
use native.Mathlib.Omega.{arith}
use native.Mathlib.Numerals.{add-one}
use borrow.Author.Tests.{eq-eqb, ne_eqb, eqb-true, eqb-false}
use lib.Dec.{eqb, T}
use lib.Arith.{digits_lt, digits_div, lt-one}
use lib.ListN.{length, get_or, set, take, length-set, replicate, length-replicate, get_or-replicate, get_or-eq_default, get_or-append}
use lib.Seq.{ext_get_or, take-suc, set_out, get_or-set_same, get_or-set_other}
use Rattle.bits.specs.Bits.{with_bit}
use Rattle.bits.proofs.Laws.{bit_with, with_lt, word_bit, word_ext, word_lt, word_same, bit_none}
use lib.Pow.{pow_pos}
use Rattle.definition.specs.Text.{same}
use Rattle.definition.specs.Tables.{Tuple, bit, word, holds_from, holds, table, table_words}
use Rattle.definition.proofs.TableLaws.{length_table, Below}
use Rattle.definition.proofs.MeaningLaws.{same_eq, same_refl}
use Rattle.tuples.specs.Places.{digits, number_at, width, word_at, bit_at, with_tuple}
use Rattle.tuples.proofs.Digits.{pos, length_digits, digits_below, digits_snoc, words_pow, table_row}

-- ---- words that are a table's

pub words_table : (u n : ℕ) (f : Tuple → Bool) (ws : List ℕ) → length ws ≡ table_words u n
    → ((w : ℕ) → w < table_words u n → get_or ws w 0 ≡ word (width u n) 0 (λ b. f (digits u n (w * width u n + b)))) → ws ≡ table u n f
words_table u n f ws e h =
    ext_get_or 0 ws (table u n f) (e ∙ sym (length_table u n f)) (λ w l. let m : w < table_words u n = rw e at l in h w m ∙ sym (table_row u n f w m))

row_below : (u n w b : ℕ) → b < width u n → Below u (digits u n (w * width u n + b))
unfolding digits
row_below u zero w b h = tt
row_below u (suc n) w b h = digits_below u (suc n) (w * u + b) (pos h)

-- only tuples of n elements count
pub table_same : (u n : ℕ) (f g : Tuple → Bool) → ((t : Tuple) → length t ≡ n → Below u t → f t ≡ g t) → table u n f ≡ table u n g
table_same u n f g h =
    words_table u n g (table u n f) (length_table u n f)
    (λ w l. table_row u n f w l
    ∙ word_same (width u n) (λ b. f (digits u n (w * width u n + b))) (λ b. g (digits u n (w * width u n + b)))
    (λ b m. h (digits u n (w * width u n + b)) (length_digits u n (w * width u n + b)) (row_below u n w b m)))

-- ---- a tuple's number

number_snoc : (u w : ℕ) (t : Tuple) (a : ℕ) → number_at u w (t ++ (a ∷ [])) ≡ u * number_at u w t + a
number_snoc u w [] a = refl
number_snoc u w (x ∷ t) a = number_snoc u (u * w + x) t a

pub number_digits : (u n i : ℕ) → i < u ^ n → number_at u 0 (digits u n i) ≡ i
unfolding digits
number_digits u zero i h = sym (lt-one (rw pow-zero at h))
number_digits u (suc n) i h =
    number_snoc u 0 (digits u n (i / u)) (i % u)
    ∙ ap (λ (k : ℕ). u * k + i % u) (number_digits u n (i / u) ((div-lt_iff_lt-mul (positive u n i h)).1 (rw pow-suc at h)))
    ∙ div-add-mod i u
  where
    positive : (u n i : ℕ) → i < u ^ suc n → 0 < u
    positive zero n i l = absurd (not-suc-le-zero (rw (pow-suc, mul_comm, zero-mul) at l))
    positive (suc u) n i l = zero-lt-suc u

pub digits_inj : (u n i j : ℕ) → i < u ^ n → j < u ^ n → digits u n i ≡ digits u n j → i ≡ j
digits_inj u n i j h l e = sym (number_digits u n i h) ∙ ap (number_at u 0) e ∙ number_digits u n j l

-- a tuple is the digits of its word and its bit
place_from : (u k w : ℕ) (a : ℕ) (t : Tuple) → Below u (a ∷ t) → digits u k w ++ (a ∷ t) ≡ digits u (k + suc (length t)) (word_at u w (a ∷ t) * u + bit_at (a ∷ t))
place_from u k w a [] h = sym (digits_snoc u k w a h.0) ∙ ap (λ (m : ℕ). digits u m (w * u + a)) (sym (add-one k))
place_from u k w a (b ∷ t) h =
    sym (append_assoc (digits u k w) (a ∷ []) (b ∷ t))
    ∙ ap (λ (s : Tuple). s ++ (b ∷ t)) (sym (digits_snoc u k w a h.0) ∙ ap (λ (m : ℕ). digits u (suc k) (m + a)) (mul_comm w u))
    ∙ place_from u (suc k) (u * w + a) b t h.1
    ∙ ap (λ (m : ℕ). digits u m (word_at u (u * w + a) (b ∷ t) * u + bit_at (b ∷ t))) (suc-add k (suc (length t)) ∙ sym (add-suc k (suc (length t))))

pub place : (u : ℕ) (t : Tuple) → Below u t → t ≡ digits u (length t) (word_at u 0 t * width u (length t) + bit_at t)
unfolding digits
place u [] h = refl
place u (a ∷ t) h = place_from u 0 0 a t h ∙ ap (λ (m : ℕ). digits u m (word_at u 0 (a ∷ t) * u + bit_at (a ∷ t))) (zero-add (suc (length t)))

word_from : (u k w : ℕ) (a : ℕ) (t : Tuple) → w < u ^ k → Below u (a ∷ t) → word_at u w (a ∷ t) < u ^ (k + length t)
word_from u k w a [] l h = rw add-zero l
word_from u k w a (b ∷ t) l h =
    rw (add-suc, ← suc-add k (length t)) (word_from u (suc k) (u * w + a) b t (rw (pow-suc, mul_comm u w) (digits_lt l h.0)) h.1)

pub word_lt_words : (u : ℕ) (t : Tuple) → Below u t → word_at u 0 t < table_words u (length t)
unfolding table_words
word_lt_words u [] h = zero-lt-suc 0
word_lt_words u (a ∷ t) h =
    rw (words_pow, ← zero-add (length t)) (word_from u 0 0 a t (rw pow-zero (zero-lt-suc 0)) h)

pub bit_lt_width : (u : ℕ) (t : Tuple) → Below u t → bit_at t < width u (length t)
bit_lt_width u [] h = zero-lt-suc 0
bit_lt_width u (a ∷ []) h = h.0
bit_lt_width u (a ∷ b ∷ t) h = bit_lt_width u (b ∷ t) h.1

number_from : (u w a : ℕ) (t : Tuple) → number_at u w (a ∷ t) ≡ word_at u w (a ∷ t) * u + bit_at (a ∷ t)
number_from u w a [] = ap (λ (k : ℕ). k + a) (mul_comm u w)
number_from u w a (b ∷ t) = number_from u (u * w + a) b t

number_place : (u : ℕ) (t : Tuple) → number_at u 0 t ≡ word_at u 0 t * width u (length t) + bit_at t
number_place u [] = refl
number_place u (a ∷ t) = number_from u 0 a t

-- the definition's test by the word and the bit
pub holds_place : (u : ℕ) (ws : List ℕ) (w : ℕ) (t : Tuple) → holds_from u ws w t ≡ bit (get_or ws (word_at u w t) 0) (bit_at t)
unfolding holds_from
holds_place u ws w [] = refl
holds_place u ws w (a ∷ []) = refl
holds_place u ws w (a ∷ b ∷ t) = holds_place u ws (u * w + a) (b ∷ t)

pub holds_at : (u : ℕ) (ws : List ℕ) (t : Tuple) → holds u ws t ≡ bit (get_or ws (word_at u 0 t) 0) (bit_at t)
unfolding holds
holds_at u ws t = holds_place u ws 0 t

word_snoc : (u w : ℕ) (t : Tuple) (a : ℕ) → word_at u w (t ++ (a ∷ [])) ≡ number_at u w t
word_snoc u w [] a = refl
word_snoc u w (x ∷ []) a = refl
word_snoc u w (x ∷ y ∷ t) a = word_snoc u (u * w + x) (y ∷ t) a

-- a tuple's word by the tuple without its last element
pub word_number : (u n : ℕ) (t : Tuple) → n < length t → number_at u 0 (take n t) ≡ word_at u 0 (take (suc n) t)
word_number u n t h = sym (ap (word_at u 0) (take-suc t n 0 h) ∙ word_snoc u 0 (take n t) (get_or t n 0))

bit_snoc : (t : Tuple) (a : ℕ) → bit_at (t ++ (a ∷ [])) ≡ a
bit_snoc [] a = refl
bit_snoc (x ∷ []) a = refl
bit_snoc (x ∷ y ∷ t) a = bit_snoc (y ∷ t) a

-- and a word's bits by the tuples
pub holds_row : (u n w b : ℕ) (ws : List ℕ) → w < table_words u n → b < width u n → holds u ws (digits u n (w * width u n + b)) ≡ bit (get_or ws w 0) b
unfolding digits table_words
holds_row u zero w b ws h l = holds_at u ws [] ∙ ap₂ (λ (i j : ℕ). bit (get_or ws i 0) j) (sym (lt-one h)) (sym (lt-one l))
holds_row u (suc n) w b ws h l =
    ap (holds u ws) (digits_snoc u n w b l)
    ∙ holds_at u ws (digits u n w ++ (b ∷ []))
    ∙ ap₂ (λ (i j : ℕ). bit (get_or ws i 0) j)
    (word_snoc u 0 (digits u n w) b ∙ number_digits u n w (subst (λ (k : ℕ). w < k) (words_pow u n) h))
    (bit_snoc (digits u n w) b)

-- words past the end are zero, and a tuple there is not added
pub holds_past : (u : ℕ) (ws : List ℕ) (t : Tuple) → length ws ≤ word_at u 0 t → holds u ws t ≡ false
holds_past u ws t h = holds_at u ws t ∙ ap (λ (w : ℕ). bit w (bit_at t)) (get_or-eq_default ws 0 h) ∙ bit_none (bit_at t)

-- words behind a table play no part
pub holds_front : (u : ℕ) (ws rest : List ℕ) (t : Tuple) → word_at u 0 t < length ws → holds u (ws ++ rest) t ≡ holds u ws t
holds_front u ws rest t h = holds_at u (ws ++ rest) t ∙ ap (λ (w : ℕ). bit w (bit_at t)) (get_or-append ws rest 0 (word_at u 0 t) h) ∙ sym (holds_at u ws t)

pub with_past : (u : ℕ) (ws : List ℕ) (t : Tuple) → length ws ≤ word_at u 0 t → ws ≡ with_tuple u ws t
unfolding with_tuple
with_past u ws t h = sym (set_out ws (word_at u 0 t) _ h)

-- ---- one tuple more

is_true : (b : Bool) → T b → b ≡ true
is_true true t = refl
is_true false t = absurd t

same_not : (s t : Tuple) → (s ≡ t → ⊥) → same s t ≡ false
same_not s t ne = go (same s t) refl
  where
    go : (b : Bool) → same s t ≡ b → b ≡ false
    go true e = absurd (ne (same_eq s t (subst T (sym e) tt)))
    go false e = refl

same_yes : (s t : Tuple) → s ≡ t → same s t ≡ true
same_yes s t e = is_true (same s t) (subst (λ (x : Tuple). T (same s x)) e (same_refl s))

number_or_not : (a b : ℕ) → (a ≡ b) ⊎ (a ≡ b → ⊥)
number_or_not a b = go (eqb a b) refl
  where
    go : (t : Bool) → eqb a b ≡ t → (a ≡ b) ⊎ (a ≡ b → ⊥)
    go true e = inl (eqb-true a b e)
    go false e = inr (eqb-false a b e)

-- a row fits a word
width_le : (u n : ℕ) → u ≤ 64 → width u n ≤ 64
width_le u zero h = omega arith
width_le u (suc n) h = h

-- the words' bits in use are the tuples
pub count_tuples : (u n : ℕ) → table_words u n * width u n ≡ u ^ n
unfolding table_words
count_tuples u zero = sym (pow-zero u)
count_tuples u (suc n) = ap (λ (k : ℕ). k * u) (words_pow u n) ∙ sym (pow-suc u n)

module _ (u : ℕ) (t : Tuple) (h : Below u t) where
  number_lt : (w b : ℕ) → w < table_words u (length t) → b < width u (length t) → w * width u (length t) + b < u ^ length t
  number_lt w b l m = rw (← count_tuples u (length t)) (digits_lt l m)

  pub digits_number : digits u (length t) (number_at u 0 t) ≡ t
  digits_number = ap (digits u (length t)) (number_place u t) ∙ sym (place u t h)

  pub number_below : number_at u 0 t < u ^ length t
  number_below = rw number_place (number_lt (word_at u 0 t) (bit_at t) (word_lt_words u t h) (bit_lt_width u t h))

  same_number : (w b : ℕ) → w < table_words u (length t) → b < width u (length t) → digits u (length t) (w * width u (length t) + b) ≡ t → w * width u (length t) + b ≡ word_at u 0 t * width u (length t) + bit_at t
  same_number w b l m e =
      digits_inj u (length t) (w * width u (length t) + b) (word_at u 0 t * width u (length t) + bit_at t) (number_lt w b l m)
      (number_lt (word_at u 0 t) (bit_at t) (word_lt_words u t h) (bit_lt_width u t h)) (e ∙ place u t h)

  same_here : (b : ℕ) → b < width u (length t) → same (digits u (length t) (word_at u 0 t * width u (length t) + b)) t ≡ eqb (bit_at t) b
  same_here b m =
      ⊎_elim
      (λ p. same_yes _ t (ap (λ (k : ℕ). digits u (length t) (word_at u 0 t * width u (length t) + k)) (sym p) ∙ sym (place u t h)) ∙ sym (eq-eqb (bit_at t) b p))
      (λ p. same_not _ t (λ e. p (let q = same_number (word_at u 0 t) b (word_lt_words u t h) m e in omega arith)) ∙ sym (ne_eqb (bit_at t) b p))
      (number_or_not (bit_at t) b)

  same_else : (w b : ℕ) → w < table_words u (length t) → b < width u (length t) → (w ≡ word_at u 0 t → ⊥) → same (digits u (length t) (w * width u (length t) + b)) t ≡ false
  same_else w b l m ne =
      same_not _ t
      (λ e. ne (sym (digits_div w m) ∙ ap (λ (k : ℕ). k / width u (length t)) (same_number w b l m e) ∙ digits_div (word_at u 0 t) (bit_lt_width u t h)))

  -- a tuple added to a table
  pub insert_table : u ≤ 64 → (f : Tuple → Bool) → with_tuple u (table u (length t) f) t ≡ table u (length t) (λ s. f s || same s t)
  unfolding with_tuple
  insert_table v f =
      words_table u (length t) g (set ws W x) (length-set ws W x ∙ length_table u (length t) f)
      (λ w l. ⊎_elim (here w) (λ p. other w l p) (number_or_not w W))
    where
      ws : List ℕ
      ws = table u (length t) f

      W : ℕ
      W = word_at u 0 t

      d : ℕ
      d = width u (length t)

      x : ℕ
      x = with_bit (get_or ws W 0) (bit_at t)

      g : Tuple → Bool
      g s = f s || same s t

      F : ℕ → ℕ → Bool
      F w b = f (digits u (length t) (w * d + b))

      G : ℕ → ℕ → Bool
      G w b = g (digits u (length t) (w * d + b))

      inside : W < table_words u (length t)
      inside = word_lt_words u t h

      narrow : d ≤ 64
      narrow = width_le u (length t) v

      here : (w : ℕ) → w ≡ W → get_or (set ws W x) w 0 ≡ word d 0 (G w)
      here w p =
          ap (λ (k : ℕ). get_or (set ws W x) k 0) p
          ∙ get_or-set_same ws W x 0 (rw length_table inside)
          ∙ ap (λ (k : ℕ). with_bit k (bit_at t)) (table_row u (length t) f W inside)
          ∙ word_ext d (with_bit (word d 0 (F W)) (bit_at t)) (G W) (with_lt d (word d 0 (F W)) (bit_at t) narrow (word_lt d 0 (F W)) (bit_lt_width u t h))
          (λ b m. bit_with (word d 0 (F W)) (bit_at t) b (lt_of_lt_of_le m narrow) ∙ ap₂ ◌||◌ (word_bit d (F W) b m) (sym (same_here b m)))
          ∙ ap (λ (k : ℕ). word d 0 (G k)) (sym p)

      other : (w : ℕ) → w < table_words u (length t) → (w ≡ W → ⊥) → get_or (set ws W x) w 0 ≡ word d 0 (G w)
      other w l p =
          get_or-set_other ws W w x 0 p
          ∙ table_row u (length t) f w l
          ∙ word_same d (F w) (G w) (λ b m. sym (ap (λ (k : Bool). F w b || k) (same_else w b l m p) ∙ or-false (F w b)))

pub length_with : (u : ℕ) (ws t : List ℕ) → length (with_tuple u ws t) ≡ length ws
unfolding with_tuple
length_with u ws t = length-set ws (word_at u 0 t) _

-- words that are zero are the table of no tuple
pub none_of : (n : ℕ) → word n 0 (λ (b : ℕ). false) ≡ 0
none_of n = sym (word_ext n 0 (λ b. false) (pow_pos n) (λ i l. bit_none i))

pub table_none : (u n : ℕ) → replicate (table_words u n) 0 ≡ table u n (λ t. false)
table_none u n =
    words_table u n (λ t. false) (replicate (table_words u n) 0) (length-replicate (table_words u n) 0)
    (λ w l. get_or-replicate (table_words u n) w 0 0 l ∙ sym (none_of (width u n)))

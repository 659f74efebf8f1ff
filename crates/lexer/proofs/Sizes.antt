-- A piece takes at least one byte and no more than there are.
use mathlib.Core.Path.{◌≡◌, refl, subst}
use mathlib.Core.Bool.{Bool, true, false, ◌&&◌, ◌||◌, not, cond}
use mathlib.Core.List.{List, [], ◌∷◌}
use Prim.Native.Nat.{ℕ, suc, ◌+◌, ◌≤◌, ◌<◌}
use native.Mathlib.Omega.{arith}
use lib.Dec.{T, eqb, ltb, leb, ltb→lt}
use borrow.Author.Tests.{eqb-true}
use lib.ListN.{length, take, drop, length-take, length-drop}
use Rattle.definition.specs.Text.{Text, ascii, span, all_of, same, starts, is_letter, is_digit, is_part, is_blank}
use Rattle.definition.specs.Limits.{WORD_BYTES}
use Rattle.definition.specs.Token.{Terminal, Mark, marks, Piece, gap, token, neither, first_mark, word, numeral, quoted, comment, piece}
use Rattle.texts.proofs.RunLaws.{span_within}
use Rattle.definition.proofs.BoolLaws.{and_left, and_right}

-- a piece of a text of n bytes
pub data Sized (n : ℕ) : Piece → Type 0 where
  sized_gap : {k : ℕ} → 0 < k → k ≤ n → Sized n (gap k)
  sized_token : {f : ℕ → Terminal} {w : Text} {k : ℕ} → 0 < k → k ≤ n → Sized n (token f w k)
  sized_neither : Sized n neither

module _ {n : ℕ} where
  sized_if : (b : Bool) {p q : Piece} → (b ≡ true → Sized n p) → (b ≡ false → Sized n q) → Sized n (cond b p q)
  sized_if true a c = a refl
  sized_if false a c = c refl

  sized_more : {m : ℕ} {p : Piece} → m ≤ n → Sized m p → Sized n p
  sized_more h (sized_gap a b) = sized_gap a (omega arith)
  sized_more h (sized_token a b) = sized_token a (omega arith)
  sized_more h sized_neither = sized_neither

-- a run whose first byte passes is not empty
span_some : (p : ℕ → Bool) (x : ℕ) (xs : Text) → p x ≡ true → 0 < span p (x ∷ xs)
unfolding span
span_some p x xs e = rw e (omega arith)

false_true : {A : Type 0} → false ≡ true → A
false_true e = let z : ◌≡◌ {A = ℕ} 0 1 = cc in absurd (omega arith)

first : (a b : Bool) → (a && b) ≡ true → a ≡ true
first true b e = refl
first false b e = e

second : (a b : Bool) → (a && b) ≡ true → b ≡ true
second true b e = e
second false b e = false_true e

starts_length : (s xs : Text) → starts s xs ≡ true → length s ≤ length xs
unfolding starts
starts_length [] xs e = omega arith
starts_length (p ∷ ps) [] e = false_true e
starts_length (p ∷ ps) (x ∷ xs) e = let r = starts_length ps xs (second (eqb p x) (starts ps xs) e) in omega arith

spelled : Mark → Bool
spelled m = ltb 0 (length m.spelled)

mark_sized : (ms : List Mark) (xs : Text) → T (all_of spelled ms) → Sized (length xs) (first_mark ms xs)
unfolding first_mark all_of spelled
mark_sized [] xs t = sized_neither
mark_sized (m ∷ ms) xs t =
    sized_if (starts m.spelled xs)
    (λ e. sized_token (ltb→lt 0 (length m.spelled) (and_left (ltb 0 (length m.spelled)) (all_of spelled ms) t)) (starts_length m.spelled xs e))
    (λ e. mark_sized ms xs (and_right (ltb 0 (length m.spelled)) (all_of spelled ms) t))

all_spelled : T (all_of spelled marks)
unfolding all_of spelled marks
all_spelled = tt

word_sized : (n : ℕ) (w : Text) → 0 < length w → length w ≤ n → Sized n (word w)
unfolding word
word_sized n w a b =
    sized_if (ltb WORD_BYTES (length w)) (λ e. sized_neither)
    (λ e. sized_if (same w (ascii "_")) (λ f. sized_token (omega arith) (omega arith)) (λ f. sized_token a b))

numeral_sized : (n : ℕ) (w : Text) → 0 < length w → length w ≤ n → Sized n (numeral w)
unfolding numeral
numeral_sized n w a b = sized_if (ltb WORD_BYTES (length w)) (λ e. sized_neither) (λ e. sized_token a b)

quoted_sized : (xs : Text) → Sized (suc (length xs)) (quoted xs)
unfolding quoted
quoted_sized xs =
    let n = span (λ x. not (eqb x 34) && not (eqb x 10)) xs in
    sized_if (leb n WORD_BYTES && starts (34 ∷ []) (drop n xs))
    (λ e. let h = starts_length (34 ∷ []) (drop n xs) (second (leb n WORD_BYTES) (starts (34 ∷ []) (drop n xs)) e) in
    sized_token (omega arith) (omega (arith, length-drop n xs)))
    (λ e. sized_neither)

comment_sized : (n : ℕ) (xs : Text) → Sized (n + length xs) (comment n xs)
unfolding comment
comment_sized n [] = sized_neither
comment_sized n (x ∷ xs) =
    sized_if (starts (ascii "*/") (x ∷ xs))
    (λ e. let h = starts_length (ascii "*/") (x ∷ xs) e in sized_gap (omega arith) (omega arith))
    (λ e. sized_more (omega arith) (comment_sized (suc n) xs))

letter_part : (x : ℕ) → is_letter x ≡ true → is_part x ≡ true
unfolding is_part
letter_part x e = rw e

-- the bytes of a comment's or a line's opening
slash : (x : ℕ) (s xs : Text) → starts (47 ∷ s) (x ∷ xs) ≡ true → not (eqb x 10) ≡ true
unfolding starts
slash x s xs e = subst (λ (y : ℕ). not (eqb y 10) ≡ true) (eqb-true 47 x (first (eqb 47 x) (starts s xs) e)) refl

pub piece_sized : (x : ℕ) (xs : Text) → Sized (suc (length xs)) (piece x xs)
unfolding piece
piece_sized x xs =
    sized_if (is_blank x || eqb x 10) (λ e. sized_gap (omega arith) (omega arith))
    (λ e0. sized_if (starts (ascii "//") (x ∷ xs)) (λ e. sized_gap (span_some (λ y. not (eqb y 10)) x xs (slash x (47 ∷ []) xs e)) (span_within (λ y. not (eqb y 10)) (x ∷ xs)))
    (λ e1. sized_if (starts (ascii "/*") (x ∷ xs)) (λ e. let h = starts_length (ascii "/*") (x ∷ xs) e in sized_more (omega (arith, length-drop 1 xs)) (comment_sized 2 (drop 1 xs)))
    (λ e2. sized_if (is_letter x) (λ e. let h = length-take (span is_part (x ∷ xs)) (x ∷ xs) in let k = span_some is_part x xs (letter_part x e) in
    word_sized (suc (length xs)) (take (span is_part (x ∷ xs)) (x ∷ xs)) (omega arith) (omega arith))
    (λ e3. sized_if (is_digit x) (λ e. let h = length-take (span is_digit (x ∷ xs)) (x ∷ xs) in let k = span_some is_digit x xs e in
    numeral_sized (suc (length xs)) (take (span is_digit (x ∷ xs)) (x ∷ xs)) (omega arith) (omega arith))
    (λ e4. sized_if (eqb x 34) (λ e. quoted_sized xs) (λ e. mark_sized marks (x ∷ xs) all_spelled))))))

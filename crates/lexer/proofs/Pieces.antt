-- What begins a text, by its first byte and, after a slash, its second.
use mathlib.Core.Path.{◌≡◌, refl, sym, ◌∙◌}
use mathlib.Core.Bool.{true, false, ◌||◌, not}
use mathlib.Core.List.{[], ◌∷◌}
use Prim.Native.Nat.{ℕ, suc, ◌+◌, ◌<◌}
use native.Mathlib.Nat.{add-zero}
use native.Mathlib.Numerals.{add-one}
use native.Mathlib.Decide.{dec_lt}
use native.Mathlib.Omega.{arith}
use lib.Dec.{eqb}
use lib.ListN.{length, take, drop, get_or, get_or-eq_default}
use lib.Seq.{drop-drop, drop-cons, get_or-drop}
use borrow.Author.Tests.{eq-eqb, ne_eqb}
use Rattle.definition.specs.Text.{Text, span, starts, is_letter, is_digit, is_part, is_blank}
use Rattle.definition.specs.Token.{gap, first_mark, marks, word, numeral, quoted, comment, piece}
use Rattle.lexer.specs.Segments.{first_piece}
use Rattle.lexer.proofs.Strings.{starts_one}
use Rattle.lexer.proofs.Marks.{three_bytes}

-- a text whose first byte is no slash opens no comment
no_slash : (x : ℕ) (s xs : Text) → (x ≡ 47 → ⊥) → starts (47 ∷ s) (x ∷ xs) ≡ false
unfolding starts
no_slash x s xs h = rw (ne_eqb 47 x (λ e. h (sym e)))

module _ (text : Text) (at : ℕ) (h : at < length text) where
  at_first : first_piece (drop at text) ≡ piece (get_or text at 0) (drop (at + 1) text)
  at_first = rw (add-one at, drop-cons text at 0 h)

  second : get_or (drop (at + 1) text) 0 0 ≡ get_or text (at + 1) 0
  second = get_or-drop (at + 1) text 0 0 ∙ rw (add-zero (at + 1))

  -- a mark is read off the first three bytes
  pub mark_bytes : first_mark marks (get_or text at 0 ∷ get_or text (at + 1) 0 ∷ get_or text (at + 2) 0 ∷ []) ≡ first_mark marks (drop at text)
  mark_bytes =
      let two : at + 1 + 1 ≡ at + 2 = omega arith in
      let third : get_or (drop (at + 1) text) 1 0 ≡ get_or text (at + 2) 0 = get_or-drop (at + 1) text 1 0 ∙ rw two in
      let all : drop at text ≡ get_or text at 0 ∷ drop (at + 1) text = rw (add-one at, drop-cons text at 0 h) in
      sym (rw all (three_bytes (get_or text at 0) (drop (at + 1) text) ∙ rw (second, third)))

  pub separator : (is_blank (get_or text at 0) || eqb (get_or text at 0) 10) ≡ true → gap 1 ≡ first_piece (drop at text)
  unfolding piece
  separator e = sym (at_first ∙ rw e)

  module _ (black : (is_blank (get_or text at 0) || eqb (get_or text at 0) 10) ≡ false) (whole : get_or text at 0 ≡ 47 → ⊥) where
    pub letter : is_letter (get_or text at 0) ≡ true → word (take (span is_part (drop at text)) (drop at text)) ≡ first_piece (drop at text)
    unfolding piece
    letter e = sym (at_first
        ∙ rw (black, no_slash (get_or text at 0) (47 ∷ []) (drop (at + 1) text) whole, no_slash (get_or text at 0) (42 ∷ []) (drop (at + 1) text) whole, e)
        (rw (add-one at, drop-cons text at 0 h)))

    module _ (other : is_letter (get_or text at 0) ≡ false) where
      pub digit : is_digit (get_or text at 0) ≡ true → numeral (take (span is_digit (drop at text)) (drop at text)) ≡ first_piece (drop at text)
      unfolding piece
      digit e = sym (at_first
          ∙ rw (black, no_slash (get_or text at 0) (47 ∷ []) (drop (at + 1) text) whole, no_slash (get_or text at 0) (42 ∷ []) (drop (at + 1) text) whole, other, e)
          (rw (add-one at, drop-cons text at 0 h)))

      pub quote : is_digit (get_or text at 0) ≡ false → get_or text at 0 ≡ 34 → quoted (drop (at + 1) text) ≡ first_piece (drop at text)
      unfolding piece
      quote e q = sym (at_first
          ∙ rw (black, no_slash (get_or text at 0) (47 ∷ []) (drop (at + 1) text) whole, no_slash (get_or text at 0) (42 ∷ []) (drop (at + 1) text) whole, other, e, eq-eqb (get_or text at 0) 34 q))

      pub mark : is_digit (get_or text at 0) ≡ false → (get_or text at 0 ≡ 34 → ⊥) → first_mark marks (drop at text) ≡ first_piece (drop at text)
      unfolding piece
      mark e q = sym (at_first
          ∙ rw (black, no_slash (get_or text at 0) (47 ∷ []) (drop (at + 1) text) whole, no_slash (get_or text at 0) (42 ∷ []) (drop (at + 1) text) whole, other, e, ne_eqb (get_or text at 0) 34 q)
          (rw (add-one at, drop-cons text at 0 h)))

  module _ (slash : get_or text at 0 ≡ 47) where
    slash_text : drop at text ≡ 47 ∷ drop (at + 1) text
    slash_text = drop-cons text at 0 h ∙ rw (slash, add-one at)

    next_is : (b : ℕ) → eqb b 0 ≡ false → starts (b ∷ []) (drop (at + 1) text) ≡ eqb b (get_or text (at + 1) 0)
    next_is b e = starts_one b (drop (at + 1) text) e ∙ rw second

    pub line_comment : get_or text (at + 1) 0 ≡ 47 → gap (span (λ y. not (eqb y 10)) (drop at text)) ≡ first_piece (drop at text)
    unfolding piece is_blank starts
    line_comment q = rw (slash_text, next_is 47 refl, q)

    pub open_comment : get_or text (at + 1) 0 ≡ 42 → comment 2 (drop (at + 2) text) ≡ first_piece (drop at text)
    unfolding piece is_blank starts
    open_comment q =
        let two : at + 1 + 1 ≡ at + 2 = omega arith in
        rw (slash_text, next_is 47 refl, next_is 42 refl, q, drop-drop, two)

    pub no_comment : (get_or text (at + 1) 0 ≡ 47 → ⊥) → (get_or text (at + 1) 0 ≡ 42 → ⊥) → first_mark marks (drop at text) ≡ first_piece (drop at text)
    unfolding piece is_blank is_letter is_digit starts
    no_comment p q =
        rw (slash_text, next_is 47 refl, next_is 42 refl, ne_eqb 47 (get_or text (at + 1) 0) (λ e. p (sym e)), ne_eqb 42 (get_or text (at + 1) 0) (λ e. q (sym e)))

-- a byte that is not 0 is within the text
pub byte_within : (text : Text) (i b : ℕ) → get_or text i 0 ≡ suc b → i < length text
byte_within text i b e = go (dec_lt i (length text))
  where
    go : Dec (i < length text) → i < length text
    go (yes l) = l
    go (no l) = absurd (omega (arith, get_or-eq_default text 0 {n = i} (omega arith)))

-- A string, from where its run of bytes ends.
use mathlib.Core.Path.{◌≡◌, refl, sym, ◌∙◌}
use mathlib.Core.Bool.{Bool, true, false, ◌&&◌, not, cond}
use mathlib.Core.List.{[], ◌∷◌}
use Prim.Native.Nat.{ℕ, ◌+◌, ◌-◌, ◌≤◌, ◌<◌}
use native.Mathlib.Nat.{add-zero}
use native.Mathlib.Omega.{arith}
use lib.Dec.{eqb, leb, lit<}
use lib.ListN.{take, drop, get_or}
use lib.Seq.{drop-drop, get_or-drop}
use borrow.Author.Tests.{le-leb, lt-leb, ne_eqb}
use Rattle.definition.specs.Text.{Text, span, starts}
use Rattle.definition.specs.Limits.{WORD_BYTES}
use Rattle.definition.specs.Token.{token, neither, string, quoted}
use Rattle.lexer.specs.declared.Segment.TheVariants.{Lexeme}
use Rattle.lexer.specs.Tokens.{STRING, terminal_of, quote_of}
use Rattle.lexer.specs.Segments.{piece_of, Packs}

-- a text of one byte begins a text whose first byte it is; 0 stands for none
pub starts_one : (b : ℕ) (xs : Text) → eqb b 0 ≡ false → starts (b ∷ []) xs ≡ eqb b (get_or xs 0 0)
unfolding starts
starts_one b [] e = sym e
starts_one b (x ∷ xs) e = go (eqb b x)
  where
    go : (c : Bool) → (c && true) ≡ c
    go true = refl
    go false = refl

-- "no quote, no byte 10"
abbrev pub in_string : ℕ → Bool
in_string x = not (eqb x 34) && not (eqb x 10)

module _ (text : Text) (at end : ℕ) (e : end ≡ at + 1 + span in_string (drop (at + 1) text)) where
  size : span in_string (drop (at + 1) text) ≡ end - (at + 1)
  size = omega arith

  closing : starts (34 ∷ []) (drop (end - (at + 1)) (drop (at + 1) text)) ≡ eqb 34 (get_or text end 0)
  closing =
      let m : at + 1 + (end - (at + 1)) ≡ end = omega arith in
      starts_one 34 (drop (end - (at + 1)) (drop (at + 1) text)) refl ∙ rw (drop-drop, get_or-drop, add-zero, m)

  pub string_closed : end - (at + 1) ≤ WORD_BYTES → get_or text end 0 ≡ 34
      → piece_of (drop at text) (Lexeme STRING (end - (at + 1)) (end - (at + 1) + 2)) ≡ quoted (drop (at + 1) text)
  unfolding quoted terminal_of quote_of
  string_closed h q = rw (size, closing, le-leb (end - (at + 1)) WORD_BYTES h, q, drop-drop 1 at text)

  pub string_open : (get_or text end 0 ≡ 34 → ⊥) → neither ≡ quoted (drop (at + 1) text)
  unfolding quoted
  string_open q = rw (size, closing, ne_eqb 34 (get_or text end 0) (λ z. q (sym z))) (go (leb (end - (at + 1)) WORD_BYTES))
    where
      go : (b : Bool) → neither ≡ cond (b && false) (token string (take (end - (at + 1)) (drop (at + 1) text)) (end - (at + 1) + 2)) neither
      go true = refl
      go false = refl

  pub string_long : WORD_BYTES < end - (at + 1) → neither ≡ quoted (drop (at + 1) text)
  unfolding quoted
  string_long h = rw (size, lt-leb (end - (at + 1)) WORD_BYTES h)

pub string_packs : (n : ℕ) → n ≤ WORD_BYTES → Packs STRING n (n + 2)
unfolding quote_of
string_packs n l = record { kind = lit< tt; size = omega arith; text = omega arith }

-- Identifiers, reserved words and "_", from the run of letters, digits and underscores.
use mathlib.Core.Path.{◌≡◌, refl, sym, ap, ◌∙◌, fun_ext}
use mathlib.Core.Bool.{true, false}
use Prim.Native.Nat.{ℕ, ◌+◌, ◌≤◌, ◌<◌}
use native.Mathlib.Omega.{arith}
use lib.Dec.{lit<, lit≤}
use lib.ListN.{length, take}
use borrow.Author.Tests.{lt-ltb, le-ltb, ne_eqb}
use Rattle.definition.specs.Text.{Text, ascii, span, same, is_part, reserved}
use Rattle.definition.specs.Limits.{WORD_BYTES}
use Rattle.definition.specs.Token.{Terminal, name, key, token, neither, word, word_terminal, FIRST_WORD, UNDERSCORE}
use Rattle.texts.proofs.RunLaws.{run_length}
use Rattle.lexer.specs.declared.Segment.TheVariants.{Lexeme}
use Rattle.lexer.specs.Tokens.{NAME, STRING, FIRST_SIGN, terminal_of, quote_of}
use Rattle.lexer.specs.Segments.{piece_of, Packs}

is_key : (k : ℕ) → k < 26 → (i : ℕ) → terminal_of (FIRST_WORD + k) i ≡ key (FIRST_WORD + k)
unfolding terminal_of
is_key k h i = rw (lt-ltb (FIRST_WORD + k) FIRST_SIGN (omega arith))

no_quote : (k : ℕ) → k < 26 → quote_of (FIRST_WORD + k) ≡ 0
unfolding quote_of
no_quote k h = rw (ne_eqb (FIRST_WORD + k) STRING (λ z. absurd (omega arith)))

pub reserved_packs : (k n : ℕ) → k < 26 → n ≤ WORD_BYTES → Packs (FIRST_WORD + k) n n
reserved_packs k n h l = record { kind = omega arith; size = omega arith; text = rw (no_quote k h) (omega arith) }

pub name_packs : (n : ℕ) → n ≤ WORD_BYTES → Packs NAME n n
unfolding quote_of
name_packs n l = record { kind = lit< tt; size = omega arith; text = omega arith }

pub any_packs : Packs UNDERSCORE 0 1
unfolding quote_of
any_packs = record { kind = lit< tt; size = lit< tt; text = lit≤ tt }

module _ (xs : Text) (n : ℕ) (e : n ≡ span is_part xs) where
  size : length (take (span is_part xs) xs) ≡ n
  size = run_length is_part xs ∙ sym e

  pub word_long : WORD_BYTES < n → neither ≡ word (take (span is_part xs) xs)
  unfolding word
  word_long h = rw (size, lt-ltb WORD_BYTES n h)

  module _ (short : n ≤ WORD_BYTES) where
    pub word_any : same (take n xs) (ascii "_") ≡ true → piece_of xs (Lexeme UNDERSCORE 0 1) ≡ word (take (span is_part xs) xs)
    unfolding word terminal_of
    word_any s = rw (size, le-ltb WORD_BYTES n short, ← e, s)

    word_of : (k : ℕ) → same (take n xs) (ascii "_") ≡ false → quote_of k ≡ 0 → ((i : ℕ) → word_terminal reserved FIRST_WORD (take n xs) i ≡ terminal_of k i)
        → piece_of xs (Lexeme k n n) ≡ word (take (span is_part xs) xs)
    unfolding word
    word_of k s q f = rw (size, le-ltb WORD_BYTES n short, ← e, s, q) (ap (λ (t : ℕ → Terminal). token t (take n xs) n) (sym (fun_ext f)))

    pub word_reserved : (k : ℕ) → k < 26 → same (take n xs) (ascii "_") ≡ false → ((i : ℕ) → word_terminal reserved FIRST_WORD (take n xs) i ≡ key (FIRST_WORD + k))
        → piece_of xs (Lexeme (FIRST_WORD + k) n n) ≡ word (take (span is_part xs) xs)
    word_reserved k h s f = word_of (FIRST_WORD + k) s (no_quote k h) (λ i. f i ∙ sym (is_key k h i))

    pub word_name : same (take n xs) (ascii "_") ≡ false → ((i : ℕ) → word_terminal reserved FIRST_WORD (take n xs) i ≡ name i)
        → piece_of xs (Lexeme NAME n n) ≡ word (take (span is_part xs) xs)
    unfolding terminal_of quote_of
    word_name s f = word_of NAME s refl f

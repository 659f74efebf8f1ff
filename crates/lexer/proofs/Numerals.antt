-- Runs of digits: too long, up to 999,999, above.
use mathlib.Core.Path.{◌≡◌, sym, ◌∙◌}
use Prim.Native.Nat.{ℕ, ◌≤◌, ◌<◌}
use native.Mathlib.Omega.{arith}
use lib.Dec.{lit<}
use lib.ListN.{length, take}
use borrow.Author.Tests.{lt-ltb, le-ltb}
use Rattle.definition.specs.Text.{Text, span, is_digit}
use Rattle.definition.specs.Limits.{WORD_BYTES, LARGEST_LITERAL}
use Rattle.definition.specs.Token.{neither, numeral, value}
use Rattle.texts.proofs.RunLaws.{run_length}
use Rattle.lexer.specs.declared.Segment.TheVariants.{Lexeme}
use Rattle.lexer.specs.Tokens.{NUMBER, LARGE_NUMBER, terminal_of, quote_of}
use Rattle.lexer.specs.Segments.{piece_of, Packs}

module _ (n : ℕ) (short : n ≤ WORD_BYTES) where
  pub number_packs : Packs NUMBER n n
  unfolding quote_of
  number_packs = record { kind = lit< tt; size = omega arith; text = omega arith }

  pub large_packs : Packs LARGE_NUMBER n n
  unfolding quote_of
  large_packs = record { kind = lit< tt; size = omega arith; text = omega arith }

module _ (xs : Text) (n : ℕ) (e : n ≡ span is_digit xs) where
  size : length (take (span is_digit xs) xs) ≡ n
  size = run_length is_digit xs ∙ sym e

  pub numeral_long : WORD_BYTES < n → neither ≡ numeral (take (span is_digit xs) xs)
  unfolding numeral
  numeral_long h = rw (size, lt-ltb WORD_BYTES n h)

  module _ (short : n ≤ WORD_BYTES) where
    pub numeral_number : value (take n xs) ≤ LARGEST_LITERAL → piece_of xs (Lexeme NUMBER n n) ≡ numeral (take (span is_digit xs) xs)
    unfolding numeral terminal_of quote_of
    numeral_number h = rw (size, le-ltb WORD_BYTES n short, ← e, le-ltb LARGEST_LITERAL (value (take n xs)) h)

    pub numeral_large : LARGEST_LITERAL < value (take n xs) → piece_of xs (Lexeme LARGE_NUMBER n n) ≡ numeral (take (span is_digit xs) xs)
    unfolding numeral terminal_of quote_of
    numeral_large h = rw (size, le-ltb WORD_BYTES n short, ← e, lt-ltb LARGEST_LITERAL (value (take n xs)) h)

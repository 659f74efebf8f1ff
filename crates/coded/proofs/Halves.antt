-- The elements that match a pattern, read from the bits of a half.
use Prim.Native.Nat.{ℕ, ◌+◌, ◌%◌, ◌<◌}
use mathlib.Core.Path.{◌≡◌, refl, ap, ◌∙◌}
use mathlib.Core.List.{List, []}
use native.Mathlib.Nat.{mod-eq_of_lt}
use borrow.Author.Tests.{lt-ltb}
use lib.ListN.{length, get_or}
use Rattle.definition.specs.Text.{Text}
use Rattle.definition.specs.Tables.{bit}
use Rattle.definition.specs.Pattern.{matches}
use Rattle.bits.proofs.Laws.{word_lt, word_bit}
use Rattle.matching.specs.Halves.{is_match, half_of}

pub half_bit : (s : Text) (universe : List Text) (a i : ℕ) → i < 32 → a + i < length universe → bit (half_of s universe a % 4294967296) i ≡ matches s (get_or universe (a + i) [])
unfolding half_of is_match
half_bit s universe a i l h =
    ap (λ (w : ℕ). bit w i) (mod-eq_of_lt (word_lt 32 0 (is_match s universe a))) ∙ word_bit 32 (is_match s universe a) i l ∙ rw (lt-ltb (a + i) (length universe) h) refl

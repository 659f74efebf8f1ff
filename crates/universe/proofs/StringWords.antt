-- The word of a string's token: the number that the code makes, its part, its text and its tag.
use Prim.Native.Nat.{ℕ, ◌+◌, ◌*◌, ◌/◌, ◌%◌, ◌<◌}
use mathlib.Core.Path.{◌≡◌, ap, ◌∙◌}
use mathlib.Core.Bool.{Bool, cond}
use native.Mathlib.Omega.{arith}
use mir.Val.{bool_byte}
use lib.ListN.{take, drop}
use Rattle.definition.specs.Text.{Text, needs_quotes}
use Rattle.definition.specs.Calls.{part_text}
use Rattle.parts.specs.Packed.{tag_of, part_of, text_of}
use Rattle.parts.proofs.PackLaws.{pack_part, pack_tag}
use Rattle.facts.proofs.UseLaws.{tag_is, tag_small}
use Rattle.universe.specs.Strings.{string_element, string_word}

module _ (query : Text) (t : ℕ) where
  pub string_number : (o n : ℕ) (q : Bool) → o ≡ t / 4096 + 1 → n ≡ t / 64 % 64 → q ≡ needs_quotes (take n (drop o query)) → (o * 64 + n) * 8 + 4 + bool_byte q ≡ string_word query t
  string_number o n q a b c =
      let e : bool_byte q ≡ cond (needs_quotes (string_element query t).value) 1 0 = tag_is q ∙ rw (c, a, b) in
      omega arith

  -- its tag is that of a test
  tag_below : cond (needs_quotes (string_element query t).value) 1 0 < 4
  tag_below = tag_small (needs_quotes (string_element query t).value)

  pub string_part : part_of (string_word query t) ≡ record { text = 1; offset = t / 4096 + 1; length = t / 64 % 64 }
  string_part = pack_part 1 (t / 4096 + 1) (t / 64 % 64) (cond (needs_quotes (string_element query t).value) 1 0) (omega arith) (omega arith) tag_below

  pub string_tag : tag_of (string_word query t) ≡ cond (needs_quotes (string_element query t).value) 1 0
  string_tag = pack_tag 1 (t / 4096 + 1) (t / 64 % 64) (cond (needs_quotes (string_element query t).value) 1 0) (omega arith) (omega arith) tag_below

  pub string_text : (facts : Text) → text_of facts query (string_word query t) ≡ (string_element query t).value
  unfolding text_of
  string_text facts = ap (part_text facts query) string_part

-- What is owed of an element in worked texts.
use Rattle.std.specs.Prelude.{ℕ, ◌+◌, ◌≤◌, ◌≡◌, length}
use Rattle.definition.specs.Text.{Text}
use Rattle.definition.specs.Limits.{document_01}
use Rattle.definition.specs.Calls.{Part, part_text, element}
use Rattle.element.specs.Addresses.{source}

-- the part of a text (0: the facts, 1: the query) from an offset on that is as long as a value
abbrev pub part : ℕ → ℕ → Text → Part
part text offset value = record { text = text; offset = offset; length = length value }

-- element n is the value, in the text from the offset on
pub record Is (facts query : Text) (n text offset : ℕ) (value : Text) : Type 0 where
  pub place : element document_01 facts query n ≡ part text offset value
  pub bytes : part_text facts query (part text offset value) ≡ value
  pub inside : offset + length value ≤ length (source facts query text)

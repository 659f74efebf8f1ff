-- A part of the facts or of the query as one number, with a tag below 4.
use Rattle.std.specs.Prelude.{ℕ, ◌+◌, ◌*◌, ◌/◌, ◌%◌}
use Rattle.definition.specs.Text.{Text}
use Rattle.definition.specs.Calls.{Part, part_text}

abbrev pub pack : ℕ → ℕ → ℕ → ℕ → ℕ
pack text offset len tag = ((offset * 64 + len) * 2 + text) * 4 + tag

abbrev pub tag_of : ℕ → ℕ
tag_of w = w % 4

abbrev pub part_of : ℕ → Part
part_of w = record { text = w / 4 % 2; offset = w / 512; length = w / 8 % 64 }

-- the text of a number
unfoldable pub text_of : Text → Text → ℕ → Text
text_of facts query w = part_text facts query (part_of w)

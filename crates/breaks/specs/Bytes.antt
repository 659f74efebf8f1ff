-- What rows 1 and 2 say of a text.
use Rattle.std.specs.Prelude.{◌≤◌, ◌≡◌, length, Result, Ok, Err}
use Rattle.definition.specs.Text.{Text}
use Rattle.definition.specs.Limits.{Limits, FACT_BYTES}
use Rattle.definition.specs.Answer.{refusal}
use Rattle.definition.specs.Facts.{Facts, fact_lines}
use Rattle.definition.specs.Join.{join_lines, read_second}
use Rattle.definition.specs.declared.Refusal.{Refusal}

-- rows 1 and 2, whatever was read before this text: they are not met, and the lines decide; or one of them is the answer
abbrev pub BytesRead : Text → Result Unit Refusal → Type 0
BytesRead facts (Ok _) = (length facts ≤ FACT_BYTES) × ((limits : Limits) (s : Facts) → read_second limits s facts ≡ join_lines limits (fact_lines facts) s)
BytesRead facts (Err q) = (limits : Limits) (s : Facts) → read_second limits s facts ≡ refusal q

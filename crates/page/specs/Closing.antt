-- The line that closes an answer's page, written into a buffer.
use Rattle.std.specs.Prelude.{ℕ, ◌≡◌, Result, Ok, Err, List, [], ◌∷◌, ◌++◌, ltb, length, drop, if◌then◌else◌}
use Rattle.definition.specs.Text.{Text, ascii}
use Rattle.definition.specs.Answer.{number, place}
use Rattle.definition.specs.Calls.{ran_answer}
use Rattle.definition.specs.Decimals.{decimal}
use Rattle.definition.specs.Page.{page}
use Rattle.definition.specs.declared.Refusal.{Refusal}
use Rattle.definition.specs.declared.Stopped.{Stopped}

-- the longest line: "refused ", a number, a space, a place, byte 10
abbrev pub LINE_BYTES : ℕ
LINE_BYTES = 30

-- the line alone: the page where there is no output
abbrev pub closing : Result Stopped Refusal → Text
closing a = page (ran_answer a) []

-- "`refused`, number, place", "one space between"
abbrev pub refusal_text : Refusal → Text
refusal_text q = ascii "refused " ++ (decimal (number q) ++ (32 ∷ decimal (place q)))

-- how much of the output stands before it
abbrev pub shown : Result Stopped Refusal → ℕ
shown (Ok s) = s.written
shown (Err q) = 0

-- the line at the start of the buffer, and its length; a buffer under LINE-BYTES stays, and the answer is 0
pub record Closes (a : Result Stopped Refusal) (buffer : List ℕ) (n : ℕ) (buffer' : List ℕ) : Type 0 where
  pub count : n ≡ if ltb (length buffer) LINE_BYTES then 0 else (length (closing a))
  pub bytes : buffer' ≡ if ltb (length buffer) LINE_BYTES then buffer else (closing a ++ drop (length (closing a)) buffer)

-- A query as its tokens and the words of its program, or the refusal of rows 8, 9, 10, 19 and 13 as the definition has it.
use Rattle.std.specs.Prelude.{Result, Ok, Err, List, ◌≡◌, ℕ, ◌≤◌, ltb, length, take, get_or, if◌then◌else◌}
use Rattle.definition.specs.Accept.{read_query}
use Rattle.definition.specs.Answer as Answers
use Rattle.definition.specs.Answer.{ok, number, place}
use Rattle.definition.specs.declared.Refusal.{Refusal}
use Rattle.definition.specs.declared.Refusal.TheVariants.{NoProgram, TooMuch, Number}
use Rattle.definition.specs.Syntax.{Program}
use Rattle.definition.specs.Text.{Text}
use Rattle.kinds.specs.Resolved.{Parsed}
use Rattle.lexer.specs.Answers.{query_tokens}
use Rattle.lexer.specs.Tokens.{at_of, tokens_of, Inside}

-- the query is a program: t tokens, which the words hold, and m words
pub record ReadAs (query : Text) (tokens words : List ℕ) (t m : ℕ) : Type 0 where
  pub program : Program
  pub accepted : read_query query ≡ ok program
  pub parsed : Parsed query tokens words (tokens_of query 0 tokens) program
  pub inside : Inside query tokens
  pub few : t ≤ 2048
  pub paid : m ≤ t

-- the code's answer, with what it leaves in the two arrays
abbrev pub IsRead : Text → List ℕ → List ℕ → Result (ℕ × ℕ) Refusal → Type 0
IsRead query tokens words (Ok (t, m)) = ReadAs query (take t tokens) (take m words) t m
IsRead query tokens words (Err q) = read_query query ≡ Answers.refused (number q) (place q)

-- the query's tokens are read, and there is room for words
pub record Lexes (query : Text) (ws : List ℕ) (M : ℕ) : Type 0 where
  pub tokens : query_tokens query ≡ ok (tokens_of query 0 ws)
  pub inside : Inside query ws
  pub few : length ws ≤ 2048
  pub room : 2048 ≤ M

-- the answer for all of those tokens
abbrev pub IsParsed : Text → List ℕ → List ℕ → Result (ℕ × ℕ) Refusal → Type 0
IsParsed query ws words (Ok (t, m)) = (t ≡ length ws) × ReadAs query ws (take m words) t m
IsParsed query ws words (Err q) = read_query query ≡ Answers.refused (number q) (place q)

-- the place of a token by its number; past the last, the query's length n
unfoldable pub place_in : ℕ → List ℕ → ℕ → ℕ
place_in n ws q = if ltb q (length ws) then (at_of (get_or ws q 0)) else n

-- rows 13, 19 and 10 at a token
pub data RefusedAt (n : ℕ) (ws : List ℕ) (row q : ℕ) : Refusal → Type 0 where
  too_deep : row ≡ 13 → RefusedAt n ws row q (TooMuch (place_in n ws q))
  an_excess : row ≡ 19 → RefusedAt n ws row q (Number (place_in n ws q))
  no_program : (row ≡ 13 → ⊥) → (row ≡ 19 → ⊥) → RefusedAt n ws row q (NoProgram (place_in n ws q))

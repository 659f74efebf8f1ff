-- What the lexer answers: rows 8, 9 and 13 (tokens), or the tokens.
use Rattle.std.specs.Prelude.{List, ℕ, ltb, length, take, Result, Ok, Err}
use Rattle.definition.specs.declared.Refusal.{Refusal}
use Rattle.definition.specs.Text.{Text}
use Rattle.definition.specs.Limits.{QUERY_BYTES, TOKENS}
use Rattle.definition.specs.Token.{Token, lexed, place_at}
use Rattle.definition.specs.Answer.{Answer, ok, refusal, ◌>>=◌, ◌>>◌, refuse_if}
use Rattle.definition.specs.Accept.{lexed_answer}
use Rattle.lexer.specs.Tokens.{tokens_of}

-- the first lines of the definition's `read_query`: "Then 8; 9; 13 tokens"
unfoldable pub query_tokens : Text → Answer (List Token)
query_tokens query = do
  refuse_if (ltb QUERY_BYTES (length query)) 8 QUERY_BYTES
  ts ← lexed_answer (lexed query)
  refuse_if (ltb TOKENS (length ts)) 13 (place_at (length query) ts TOKENS)
  ok ts

-- the answer of the code, with the words that it leaves
abbrev pub answer : Text → List ℕ → Result ℕ Refusal → Answer (List Token)
answer query words (Ok n) = ok (tokens_of query 0 (take n words))
answer query words (Err q) = refusal q

-- how many words hold tokens
abbrev pub count_of : Result ℕ Refusal → ℕ
count_of (Ok n) = n
count_of (Err q) = 0

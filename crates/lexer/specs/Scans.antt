-- What the loop over a query has found.
use Rattle.std.specs.Prelude.{◌≡◌, List, [], ◌∷◌, ℕ, ◌+◌, ◌≤◌, ◌<◌, length, get_or, Result, Ok, Err}
use Rattle.definition.specs.Text.{Text}
use Rattle.definition.specs.Limits.{TOKENS}
use Rattle.definition.specs.Token.{Token, token_at, Lexed, tokens, stopped, add, lex}
use Rattle.lexer.specs.Tokens.{token_of, start_of, size_of}

-- tokens, and then what follows
unfoldable pub after : List Token → Lexed → Lexed
after [] l = l
after (t ∷ ts) l = add t (after ts l)

-- the tokens before a place: how many, the first 2,048 of them as words, and the place of the 2,049th
pub record Before (query : Text) (words : List ℕ) (count over : ℕ) (rest : Lexed) : Type 0 where
  pub read : List Token
  pub whole : lex query 0 0 0 ≡ after read rest
  pub many : length read ≡ count
  pub held : (i : ℕ) → i < count → i < TOKENS → token_at read i ≡ token_of query i (get_or words i 0)
  pub inside : (i : ℕ) → i < count → i < TOKENS → start_of (get_or words i 0) + size_of (get_or words i 0) ≤ length query
  pub next : TOKENS < count → (token_at read TOKENS).at ≡ over

-- after the loop
abbrev pub Scanned : Text → List ℕ → Result (ℕ × ℕ) ℕ → Type 0
Scanned query words (Err p) = lex query 0 0 0 ≡ stopped p
Scanned query words (Ok (count, over)) = Before query words count over (tokens [])

-- Tokens as words: the place from bit 12 on, the length of the text in bits 6 to 11, below them the token's kind.
use Rattle.std.specs.Prelude.{ℕ, ◌+◌, ◌/◌, ◌%◌, ◌<◌, ◌≡◌, cond, List, eqb, length, get_or, take, drop}
use Rattle.definition.specs.Text.{Text}
use Rattle.definition.specs.Token as Token
use Rattle.definition.specs.Token.{Token, token_at}

-- the kind of a string's token, whose text starts after its opening quote
abbrev pub QUOTED : ℕ
QUOTED = 48

abbrev pub start_of : ℕ → ℕ
start_of w = w / 4096 + cond (eqb (w % 64) QUOTED) 1 0

-- the text of a word
unfoldable pub text_at : Text → ℕ → Text
text_at xs w = take (w / 64 % 64) (drop (start_of w) xs)

-- the words ws are the tokens ts of a query
pub record Stand (query : Text) (ws : List ℕ) (ts : List Token) : Type 0 where
  pub count : length ts ≡ length ws
  pub texts : (i : ℕ) → i < length ws → (token_at ts i).text ≡ text_at query (get_or ws i 0)
  pub places : (i : ℕ) → i < length ws → (token_at ts i).at ≡ get_or ws i 0 / 4096
  pub names : (i : ℕ) → i < length ws → (token_at ts i).terminal ≡ Token.name i → get_or ws i 0 % 64 ≡ QUOTED → ⊥
  pub strings : (i : ℕ) → i < length ws → (token_at ts i).terminal ≡ Token.string i → get_or ws i 0 % 64 ≡ QUOTED

-- What words hold, for whoever reads them: by a token's number, from a token on, and as the definition's tokens.
use mathlib.Core.Path.{◌≡◌, refl, sym, ap, ◌∙◌}
use mathlib.Core.Bool.{Bool, true, false}
use mathlib.Core.List.{List, [], ◌∷◌}
use Prim.Native.Nat.{ℕ, zero, suc, ◌+◌, ◌≤◌, ◌<◌}
use native.Mathlib.Nat.{zero-add, add-zero, add-suc, suc-add, not-suc-le-zero, le_of_suc-le-suc}
use lib.Dec.{ltb}
use lib.ListN.{length, drop, get_or}
use Rattle.definition.specs.Text.{Text}
use Rattle.definition.specs.Limits.{QUERY_BYTES, TOKENS}
use Rattle.definition.specs.Answer.{Answer, ok, refused, ◌>>=◌, ◌>>◌, refuse_if}
use Rattle.definition.specs.Token.{Terminal, Token, terminals, token_at, place_at, lexed}
use Rattle.definition.specs.Reader.{read_program}
use Rattle.definition.specs.Syntax.{Program, says}
use Rattle.definition.specs.Accept.{lexed_answer, read_answer, read_query}
use Rattle.lexer.specs.Tokens.{terminal_of, kind_of, at_of, token_of, tokens_of, terminals_of}
use Rattle.lexer.specs.Answers.{query_tokens}

-- as many tokens as words
pub length_tokens : (query : Text) (n : ℕ) (ws : List ℕ) → length (tokens_of query n ws) ≡ length ws
unfolding tokens_of
length_tokens query n [] = refl
length_tokens query n (w ∷ ws) = ap suc (length_tokens query (suc n) ws)

pub length_terminals : (n : ℕ) (ws : List ℕ) → length (terminals_of n ws) ≡ length ws
unfolding terminals_of
length_terminals n [] = refl
length_terminals n (w ∷ ws) = ap suc (length_terminals (suc n) ws)

-- what the grammar sees needs no query
pub terminals_held : (query : Text) (n : ℕ) (ws : List ℕ) → terminals (tokens_of query n ws) ≡ terminals_of n ws
unfolding tokens_of terminals_of
terminals_held query n [] = refl
terminals_held query n (w ∷ ws) = ap (λ (ts : List Terminal). terminal_of (kind_of w) n ∷ ts) (terminals_held query (suc n) ws)

token_from : (query : Text) (n : ℕ) (ws : List ℕ) (i : ℕ) → i < length ws → token_at (tokens_of query n ws) i ≡ token_of query (n + i) (get_or ws i 0)
unfolding tokens_of
token_from query n [] i h = absurd (not-suc-le-zero h)
token_from query n (w ∷ ws) zero h = ap (λ (m : ℕ). token_of query m w) (sym (add-zero n))
token_from query n (w ∷ ws) (suc i) h =
    token_from query (suc n) ws i (le_of_suc-le-suc h) ∙ ap (λ (m : ℕ). token_of query m (get_or ws i 0)) (suc-add n i ∙ sym (add-suc n i))

drop_from : (n : ℕ) (ws : List ℕ) (i : ℕ) → i < length ws → drop i (terminals_of n ws) ≡ terminal_of (kind_of (get_or ws i 0)) (n + i) ∷ drop (suc i) (terminals_of n ws)
unfolding terminals_of
drop_from n [] i h = absurd (not-suc-le-zero h)
drop_from n (w ∷ ws) zero h = ap (λ (m : ℕ). terminal_of (kind_of w) m ∷ terminals_of (suc n) ws) (sym (add-zero n))
drop_from n (w ∷ ws) (suc i) h =
    drop_from (suc n) ws i (le_of_suc-le-suc h) ∙ ap (λ (m : ℕ). terminal_of (kind_of (get_or ws i 0)) m ∷ drop (suc i) (terminals_of (suc n) ws)) (suc-add n i ∙ sym (add-suc n i))

-- a token by its number
module _ (query : Text) (ws : List ℕ) (i : ℕ) (h : i < length ws) where
  pub token_held : token_at (tokens_of query 0 ws) i ≡ token_of query i (get_or ws i 0)
  token_held = token_from query 0 ws i h ∙ ap (λ (m : ℕ). token_of query m (get_or ws i 0)) (zero-add i)

-- the place of a token, and past the last the query's length
place_from : (query : Text) (n m : ℕ) (ws : List ℕ) (i : ℕ) → i < length ws → place_at m (tokens_of query n ws) i ≡ at_of (get_or ws i 0)
unfolding tokens_of
place_from query n m [] i h = absurd (not-suc-le-zero h)
place_from query n m (w ∷ ws) zero h = refl
place_from query n m (w ∷ ws) (suc i) h = place_from query (suc n) m ws i (le_of_suc-le-suc h)

pub place_held : (query : Text) (m : ℕ) (ws : List ℕ) (i : ℕ) → i < length ws → place_at m (tokens_of query 0 ws) i ≡ at_of (get_or ws i 0)
place_held query m ws i h = place_from query 0 m ws i h

pub place_past : (m : ℕ) (ts : List Token) (i : ℕ) → length ts ≤ i → place_at m ts i ≡ m
place_past m [] i h = refl
place_past m (t ∷ ts) zero h = absurd (not-suc-le-zero h)
place_past m (t ∷ ts) (suc i) h = place_past m ts i (le_of_suc-le-suc h)

-- the tokens, and then the reader: the definition's `read_query`
after_tokens : (long : Bool) (r p : ℕ) (l : Answer (List Token)) (n : ℕ) (rest : List Token → Answer Program)
    → ◌>>◌ (refuse_if long r p) (◌>>=◌ l (λ ts. ◌>>◌ (refuse_if (ltb TOKENS (length ts)) 13 (place_at n ts TOKENS)) (rest ts)))
    ≡ ◌>>=◌ (◌>>◌ (refuse_if long r p) (◌>>=◌ l (λ ts. ◌>>◌ (refuse_if (ltb TOKENS (length ts)) 13 (place_at n ts TOKENS)) (ok ts)))) rest
after_tokens true r p l n rest = refl
after_tokens false r p (refused s q) n rest = refl
after_tokens false r p (ok ts) n rest = go (ltb TOKENS (length ts))
  where
    go : (b : Bool) → ◌>>◌ (refuse_if b 13 (place_at n ts TOKENS)) (rest ts) ≡ ◌>>=◌ (◌>>◌ (refuse_if b 13 (place_at n ts TOKENS)) (ok ts)) rest
    go true = refl
    go false = refl

pub query_read : (query : Text)
    → read_query query ≡ ◌>>=◌ (query_tokens query) (λ ts. ◌>>=◌ (read_answer (length query) ts (read_program (terminals ts))) (λ p. ok (says ts p)))
unfolding read_query query_tokens
query_read query =
    after_tokens (ltb QUERY_BYTES (length query)) 8 QUERY_BYTES (lexed_answer (lexed query)) (length query)
    (λ ts. ◌>>=◌ (read_answer (length query) ts (read_program (terminals ts))) (λ p. ok (says ts p)))

-- The lexer's words are the tokens that they hold.
use Rattle.std.specs.Prelude.{if◌then◌else◌}
use Prim.Native.Nat.{ℕ, zero, suc, ◌+◌, ◌%◌, ◌<◌}
use mathlib.Core.Path.{◌≡◌, refl, sym, ap, ◌∙◌}
use mathlib.Core.Bool.{Bool, true, false}
use mathlib.Core.List.{List, [], ◌∷◌}
use native.Mathlib.Omega.{arith}
use borrow.Author.Tests.{eqb-true}
use lib.Dec.{eqb, ltb}
use lib.ListN.{length, get_or}
use Rattle.definition.specs.Text.{Text}
use Rattle.definition.specs.Token as Token
use Rattle.definition.specs.Token.{Terminal, Token, token_at}
use Rattle.lexer.specs.Tokens.{FIRST_SIGN, NAME, NUMBER, LARGE_NUMBER, sign_of, quote_of, terminal_of, token_of, tokens_of}
use Rattle.intern.specs.Entries.{QUOTED, text_at, Stand}

length_tokens : (query : Text) (i : ℕ) (ws : List ℕ) → length (tokens_of query i ws) ≡ length ws
unfolding tokens_of
length_tokens query i [] = refl
length_tokens query i (w ∷ ws) = ap suc (length_tokens query (suc i) ws)

token_there : (query : Text) (i k : ℕ) (ws : List ℕ) → k < length ws → token_at (tokens_of query i ws) k ≡ token_of query (i + k) (get_or ws k 0)
unfolding tokens_of
token_there query i k [] h = absurd (omega arith)
token_there query i zero (w ∷ ws) h = let e : i + 0 ≡ i = omega arith in rw e refl
token_there query i (suc k) (w ∷ ws) h = let e : suc i + k ≡ i + suc k = omega arith in token_there query (suc i) k ws (omega arith) ∙ rw e refl

text_there : (query : Text) (i w : ℕ) → (token_of query i w).text ≡ text_at query w
unfolding text_at quote_of
text_there query i w = refl

no_name : (i j w : ℕ) → terminal_of (w % 64) i ≡ Token.name j → w % 64 ≡ QUOTED → ⊥
unfolding terminal_of
no_name i j w e q =
    let s : ◌≡◌ {A = Terminal} (Token.string i) (Token.name j) = rw q at e in
    let z : ◌≡◌ {A = ℕ} 0 1 = cc in
    omega arith

-- a string's token is quoted: every other kind gives another terminal
a_string : (i j w : ℕ) → terminal_of (w % 64) i ≡ Token.string j → w % 64 ≡ QUOTED
unfolding terminal_of
a_string i j w e =
    go (ltb (w % 64) FIRST_SIGN) (eqb (w % 64) NAME) (eqb (w % 64) QUOTED) (eqb (w % 64) NUMBER) (eqb (w % 64) LARGE_NUMBER) (ltb QUOTED (w % 64)) refl e
  where
    go : (a b c d f g : Bool) → eqb (w % 64) QUOTED ≡ c
        → (if a then (Token.key (w % 64)) else if b then (Token.name i) else if c then (Token.string i) else if d then (Token.number false i)
        else if f then (Token.number true i) else if g then (Token.key (w % 64)) else (Token.sign (sign_of (w % 64)))) ≡ Token.string j
        → w % 64 ≡ QUOTED
    go true b c d f g h e = let z : ◌≡◌ {A = ℕ} 0 1 = cc in absurd (omega arith)
    go false true c d f g h e = let z : ◌≡◌ {A = ℕ} 0 1 = cc in absurd (omega arith)
    go false false true d f g h e = eqb-true (w % 64) QUOTED h
    go false false false true f g h e = let z : ◌≡◌ {A = ℕ} 0 1 = cc in absurd (omega arith)
    go false false false false true g h e = let z : ◌≡◌ {A = ℕ} 0 1 = cc in absurd (omega arith)
    go false false false false false true h e = let z : ◌≡◌ {A = ℕ} 0 1 = cc in absurd (omega arith)
    go false false false false false false h e = let z : ◌≡◌ {A = ℕ} 0 1 = cc in absurd (omega arith)

-- the tokens of a query stand in the lexer's words
pub lexed_stand : (query : Text) (ws : List ℕ) → Stand query ws (tokens_of query 0 ws)
lexed_stand query ws =
    record {
      count = length_tokens query 0 ws;
      texts = λ i h. ap (λ (t : Token). t.text) (token_there query 0 i ws h) ∙ text_there query (0 + i) (get_or ws i 0);
      places = λ i h. ap (λ (t : Token). t.at) (token_there query 0 i ws h);
      names = λ i h e. no_name (0 + i) i (get_or ws i 0) (sym (ap (λ (t : Token). t.terminal) (token_there query 0 i ws h)) ∙ e);
      strings = λ i h e. a_string (0 + i) i (get_or ws i 0) (sym (ap (λ (t : Token). t.terminal) (token_there query 0 i ws h)) ∙ e);
    }

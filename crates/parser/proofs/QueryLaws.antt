-- What the lexer and the parser answer, put together as the definition's read-query.
use Rattle.std.specs.Prelude.{Result, Ok, Err, if◌then◌else◌}
use mathlib.Core.Bool.{Bool, true, false}
use mathlib.Core.List.{List, [], ◌∷◌, ◌++◌, append-nil}
use mathlib.Core.Path.{◌≡◌, refl, ap, sym, subst, ◌∙◌}
use native.Mathlib.Omega.{arith}
use Prim.Native.Nat.{ℕ, zero, suc, ◌+◌, ◌≤◌, ◌<◌}
use lib.Dec.{eqb, ltb}
use lib.ListN.{length, take, drop, get_or, get_or-eq_default}
use lib.Seq.{sets-eq, take-append_seam, length-take-le}
use borrow.Author.Tests.{lt-ltb, le-ltb, ltb-true, ltb-false}
use Rattle.definition.proofs.AnswerLaws.{GrammarRows, good, row_10, row_19, row_13, grammar_rows}
use Rattle.definition.proofs.GrammarFlat.{read_flat}
use Rattle.definition.specs.Accept.{lexed_answer, read_answer, read_query}
use Rattle.definition.specs.Answer as Answers
use Rattle.definition.specs.Answer.{Answer, ok, refused, number, place, ◌>>=◌, ◌>>◌, refuse_if}
use Rattle.definition.specs.declared.Refusal.{Refusal}
use Rattle.definition.specs.Grammar.{Tree}
use Rattle.definition.specs.Grammar as Grammar
use Rattle.definition.specs.Limits.{QUERY_BYTES, TOKENS}
use Rattle.definition.specs.Reader.{phrase, read_as, read_program}
use Rattle.definition.specs.Syntax.{Program, says}
use Rattle.definition.specs.Text.{Text}
use Rattle.definition.specs.Token.{Token, terminals, token_at, place_at, lexed}
use Rattle.definition.specs.Token as Token
use Rattle.intern.proofs.Lexed.{lexed_stand}
use Rattle.lexer.proofs.Held.{length_tokens, terminals_held, token_held, place_held, place_past, query_read}
use Rattle.lexer.specs.Answers.{query_tokens, answer, count_of}
use Rattle.std.specs.Prelude.{Result, Ok, Err}
use Rattle.lexer.specs.Tokens.{NAME, STRING, NUMBER, LARGE_NUMBER, FIRST_SIGN, sign_of, kind_of, at_of, terminal_of, tokens_of, terminals_of, Inside}
use Rattle.parser.specs.Queries.{ReadAs, IsRead, Lexes, IsParsed, place_in, RefusedAt, too_deep, an_excess, no_program}
use Rattle.simple.specs.Statements.{Places}
use Rattle.statements.proofs.SequenceLaws.{tokens_hold}
use Rattle.statements.specs.Blocks.{whole, ends, IsProgram}
use Rattle.terms.specs.declared.ParseError.{ParseError}
use Rattle.terms.specs.Phrases as Phrases
use Rattle.terms.specs.Phrases.{row_of, token_of, Wrote}
use Rattle.words.proofs.Said.{Numbered, AllNumbered, said}
use Rattle.words.proofs.Sizes.{length_program}
use Rattle.words.specs.Tokens.{OwnProgram}

-- a query that has tokens is not too long
short : (query : Text) {ts : List Token} → query_tokens query ≡ ok ts → length query ≤ 16384
unfolding query_tokens
short query {ts} e = at (ltb QUERY_BYTES (length query)) refl e
  where
    at : (b : Bool) → ltb QUERY_BYTES (length query) ≡ b → ◌>>◌ (refuse_if b 8 QUERY_BYTES) (◌>>=◌ (lexed_answer (lexed query)) (λ ts. ◌>>◌ (refuse_if (ltb TOKENS (length ts)) 13 (place_at (length query) ts TOKENS)) (ok ts))) ≡ ok ts → length query ≤ 16384
    at true h e = absurd (let z : ◌≡◌ {A = ℕ} 0 1 = cc in omega arith)
    at false h e = ltb-false QUERY_BYTES (length query) h

-- so its places are small
place_small : (query : Text) (ws : List ℕ) → Inside query ws → length query ≤ 16384 → (i : ℕ) → at_of (get_or ws i 0) < 65536
place_small query ws f h i = by (ltb i (length ws)) refl
  where
    by : (b : Bool) → ltb i (length ws) ≡ b → at_of (get_or ws i 0) < 65536
    by true e = omega (arith, f i (ltb-true i (length ws) e), h)
    by false e = rw (get_or-eq_default ws 0 {n = i} (ltb-false i (length ws) e)) (omega arith)

pub places : (query : Text) {ws : List ℕ} {M : ℕ} → Lexes query ws M → Places ws
places query {ws} l = record { small = place_small query ws l.inside (short query l.tokens) }

past : (ts : List Token) (i : ℕ) → length ts ≤ i → (token_at ts i).at ≡ 0
past [] i h = refl
past (t ∷ ts) zero h = absurd (omega arith)
past (t ∷ ts) (suc i) h = past ts i (omega arith)

token_small : (query : Text) (ws : List ℕ) → Places ws → (i : ℕ) → (token_at (tokens_of query 0 ws) i).at < 65536
token_small query ws p i = by (ltb i (length ws)) refl
  where
    by : (b : Bool) → ltb i (length ws) ≡ b → (token_at (tokens_of query 0 ws) i).at < 65536
    by true e = subst (λ n. n < 65536) (sym (ap (λ (t : Token). t.at) (token_held query ws i (ltb-true i (length ws) e)))) (p.small i)
    by false e = subst (λ n. n < 65536) (sym (past (tokens_of query 0 ws) i (omega (arith, ltb-false i (length ws) e, length_tokens query 0 ws)))) (omega arith)

-- each identifier, string and literal has its own token's number
module _ (query : Text) (ws : List ℕ) (p : (i : ℕ) → (token_at (tokens_of query 0 ws) i).at < 65536) where
  one_numbered : (k i : ℕ) → (token_at (tokens_of query 0 ws) i).terminal ≡ terminal_of k i → i < length (tokens_of query 0 ws) → Numbered (tokens_of query 0 ws) p (terminal_of k i)
  unfolding terminal_of
  one_numbered k i e l = at (ltb k FIRST_SIGN) (eqb k NAME) (eqb k STRING) (eqb k NUMBER) (eqb k LARGE_NUMBER) (ltb STRING k) e
    where
      at : (a b c d f g : Bool)
          → (token_at (tokens_of query 0 ws) i).terminal ≡ (if a then (Token.key k) else if b then (Token.name i) else if c then (Token.string i) else if d then (Token.number false i) else if f then (Token.number true i) else if g then (Token.key k) else (Token.sign (sign_of k)))
          → Numbered (tokens_of query 0 ws) p (if a then (Token.key k) else if b then (Token.name i) else if c then (Token.string i) else if d then (Token.number false i) else if f then (Token.number true i) else if g then (Token.key k) else (Token.sign (sign_of k)))
      at true b c d f g e = tt
      at false true c d f g e = (e, l)
      at false false true d f g e = (e, l)
      at false false false true f g e = (e, l)
      at false false false false true g e = (e, l)
      at false false false false false true e = tt
      at false false false false false false e = tt

  numbered_from : (n : ℕ) (us : List ℕ) → n + length us ≤ length ws → ((j : ℕ) → j < length us → get_or ws (n + j) 0 ≡ get_or us j 0) → AllNumbered (tokens_of query 0 ws) p (terminals_of n us)
  unfolding AllNumbered terminals_of
  numbered_from n [] h f = tt
  numbered_from n (w ∷ us) h f =
      let i : n + 0 ≡ n = omega arith in
      let e : get_or ws n 0 ≡ w = ap (λ j. get_or ws j 0) (sym i) ∙ f 0 (omega arith) in (
        one_numbered (kind_of w) n (ap (λ (t : Token). t.terminal) (token_held query ws n (omega arith)) ∙ ap (λ v. terminal_of (kind_of v) n) e) (omega (arith, length_tokens query 0 ws)),
        numbered_from (suc n) us (omega arith) (λ j l. let k : suc n + j ≡ n + suc j = omega arith in ap (λ j. get_or ws j 0) k ∙ f (suc j) (omega arith)),
      )

  all_numbered : AllNumbered (tokens_of query 0 ws) p (terminals (tokens_of query 0 ws))
  all_numbered = subst (AllNumbered (tokens_of query 0 ws) p) (sym (terminals_held query 0 ws)) (numbered_from 0 ws (omega arith) (λ j l. let k : 0 + j ≡ j = omega arith in ap (λ j. get_or ws j 0) k))

  own : (t : Tree Grammar.Program) → read_program (terminals (tokens_of query 0 ws)) ≡ read_as (t, tt) → OwnProgram (tokens_of query 0 ws) (says (tokens_of query 0 ws) t)
  own t e = said (tokens_of query 0 ws) p t (subst (AllNumbered (tokens_of query 0 ws) p) (sym (sym (append-nil (Grammar.flat t)) ∙ read_flat (terminals (tokens_of query 0 ws)) (phrase Grammar.Program ∷ []) (t, tt) e)) all_numbered)

-- the words in front of the array
wrote_front : {A A' xs : List ℕ} {m : ℕ} → Wrote A 0 xs m A' → m ≤ length A → take m A' ≡ xs
wrote_front {A} {A'} {xs} {m} f h =
    let e : m ≡ length xs = omega (arith, f.many) in
    ap (take m) (f.is ∙ sets-eq xs A 0 (omega (arith, f.many))) ∙ ap (λ k. take k (xs ++ drop (0 + length xs) A)) e ∙ take-append_seam xs (drop (0 + length xs) A)

-- accepted
read_ok : (query : Text) {ts : List Token} (t : Tree Grammar.Program) → query_tokens query ≡ ok ts → read_program (terminals ts) ≡ read_as (t, tt) → read_query query ≡ ok (says ts t)
read_ok query {ts} t e f =
    query_read query
    ∙ ap (λ o. ◌>>=◌ o (λ ts. ◌>>=◌ (read_answer (length query) ts (read_program (terminals ts))) (λ p. ok (says ts p)))) e
    ∙ ap (λ o. ◌>>=◌ (read_answer (length query) ts o) (λ p. ok (says ts p))) f

read_no : (query : Text) {ts : List Token} (row q : ℕ) → query_tokens query ≡ ok ts → read_answer (length query) ts (read_program (terminals ts)) ≡ refused row q → read_query query ≡ refused row q
read_no query {ts} row q e f =
    query_read query
    ∙ ap (λ o. ◌>>=◌ o (λ ts. ◌>>=◌ (read_answer (length query) ts (read_program (terminals ts))) (λ p. ok (says ts p)))) e
    ∙ ap (λ o. ◌>>=◌ o (λ p. ok (says ts p))) f

pub query_refused : (query : Text) (r : Refusal) → query_tokens query ≡ Answers.refused (number r) (place r) → read_query query ≡ Answers.refused (number r) (place r)
query_refused query r e = query_read query ∙ ap (λ o. ◌>>=◌ o (λ ts. ◌>>=◌ (read_answer (length query) ts (read_program (terminals ts))) (λ p. ok (says ts p)))) e

module _ (query : Text) {ws A A' : List ℕ} {a : Phrases.Answer} (l : Lexes query ws (length A)) (h : IsProgram ws A A' a) where
  pub tokens_read : {q m : ℕ} → a ≡ Ok (q, m) → (q ≡ length ws) × ReadAs query ws (take m A') q m
  tokens_read {q} {m} i =
      let b = subst (ends ws) i h.bounds in
      let f = subst (whole ws (tokens_of query 0 ws) A A') i (h.at (tokens_of query 0 ws) (tokens_hold query ws)) in
      let p = token_small query ws (places query l) in (
        b.0,
        record {
          program = says (tokens_of query 0 ws) f.tree;
          accepted = read_ok query f.tree l.tokens f.reads;
          parsed = record {
            stand = lexed_stand query ws;
            own = own query ws p f.tree f.reads;
            few = omega (arith, length_tokens query 0 ws, l.few);
            small = omega (arith, f.wrote.many, length_program (says (tokens_of query 0 ws) f.tree) 0, b.0, b.1, l.few);
            flat = wrote_front f.wrote (omega (arith, b.0, b.1, l.few, l.room));
          };
          inside = l.inside;
          few = omega (arith, b.0, l.few);
          paid = b.1;
        },
      )

  -- refused at a token
  here : (n q : ℕ) → place_at n (tokens_of query 0 ws) q ≡ place_in n ws q
  unfolding place_in
  here n q = by (ltb q (length ws)) refl
    where
      by : (b : Bool) → ltb q (length ws) ≡ b → place_at n (tokens_of query 0 ws) q ≡ (if b then (at_of (get_or ws q 0)) else n)
      by true e = place_held query n ws q (ltb-true q (length ws) e)
      by false e = place_past n (tokens_of query 0 ws) q (omega (arith, ltb-false q (length ws) e, length_tokens query 0 ws))

  row_ten : {n row q : ℕ} {ts : List Token} {o : Answer (Tree Grammar.Program)} → GrammarRows n ts o → o ≡ refused row q → (row ≡ 13 → ⊥) → (row ≡ 19 → ⊥) → row ≡ 10
  row_ten (good g) e f h = absurd (let z : ◌≡◌ {A = ℕ} 0 1 = cc in omega arith)
  row_ten (row_10 k g) e f h = cc
  row_ten (row_19 k g) e f h = absurd (h cc)
  row_ten (row_13 k g) e f h = absurd (f cc)

  pub tokens_refused : {why : ParseError} {r : Refusal} → a ≡ Err why → RefusedAt (length query) ws (row_of why) (token_of why) r → read_query query ≡ Answers.refused (number r) (place r)
  tokens_refused {why} {r} i d = by d
    where
      e : read_answer (length query) (tokens_of query 0 ws) (read_program (terminals (tokens_of query 0 ws))) ≡ refused (row_of why) (place_at (length query) (tokens_of query 0 ws) (token_of why))
      e = subst (whole ws (tokens_of query 0 ws) A A') i (h.at (tokens_of query 0 ws) (tokens_hold query ws)) (length query)

      of_row : (k : ℕ) → row_of why ≡ k → read_query query ≡ Answers.refused k (place_in (length query) ws (token_of why))
      of_row k f = read_no query (row_of why) _ l.tokens e ∙ ap (λ k. refused k (place_at (length query) (tokens_of query 0 ws) (token_of why))) f ∙ ap (refused k) (here (length query) (token_of why))

      by : {r : Refusal} → RefusedAt (length query) ws (row_of why) (token_of why) r → read_query query ≡ Answers.refused (number r) (place r)
      by (too_deep f) = of_row 13 f
      by (an_excess f) = of_row 19 f
      by (no_program f g) = of_row 10 (row_ten (grammar_rows (length query) (tokens_of query 0 ws)) e f g)

pub place_inside : (n : ℕ) (ws : List ℕ) (q : ℕ) {w : ℕ} → q < length ws → w ≡ at_of (get_or ws q 0) → w ≡ place_in n ws q
unfolding place_in
place_inside n ws q h e = e ∙ ap (λ b. if b then (at_of (get_or ws q 0)) else n) (sym (lt-ltb q (length ws) h))

pub place_outside : (n : ℕ) (ws : List ℕ) (q : ℕ) → length ws ≤ q → n ≡ place_in n ws q
unfolding place_in
place_outside n ws q h = ap (λ b. if b then (at_of (get_or ws q 0)) else n) (sym (le-ltb q (length ws) h))

-- what the lexer answers
pub lexed_few : {l : Result ℕ Refusal} {n : ℕ} → l ≡ Ok n → count_of l ≤ 2048 → n ≤ 2048
lexed_few e h = rw e at h

pub lexes : (query : Text) (words : List ℕ) {l : Result ℕ Refusal} {n M : ℕ} → l ≡ Ok n → answer query words l ≡ query_tokens query → count_of l ≤ 2048 → Inside query (take (count_of l) words) → 2048 ≤ length words → 2048 ≤ M → Lexes query (take n words) M
lexes query words {l} {n} {M} e f h i long room = by (rw e at f) (rw e at h) (rw e at i)
  where
    by : ok (tokens_of query 0 (take n words)) ≡ query_tokens query → n ≤ 2048 → Inside query (take n words) → Lexes query (take n words) M
    by f h i = record { tokens = sym f; inside = i; few = omega (arith, h, length-take-le n words (omega (arith, h, long))); room = room }

pub all_read : (query : Text) (tokens words : List ℕ) (n : ℕ) (r : Result (ℕ × ℕ) Refusal) → n ≤ length tokens → IsParsed query (take n tokens) words r → IsRead query tokens words r
all_read query tokens words n r h p = by r p
  where
    by : (r : Result (ℕ × ℕ) Refusal) → IsParsed query (take n tokens) words r → IsRead query tokens words r
    by (Ok (t, m)) p = subst (λ k. ReadAs query (take k tokens) (take m words) t m) (sym (p.0 ∙ length-take-le n tokens h)) p.1
    by (Err q) p = p

pub not_lexed : (query : Text) (words : List ℕ) {l : Result ℕ Refusal} {r : Refusal} → l ≡ Err r → answer query words l ≡ query_tokens query → read_query query ≡ refused (number r) (place r)
not_lexed query words {l} {r} e f = query_refused query r (sym (rw e at f))

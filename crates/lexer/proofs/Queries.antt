-- Rows 8, 9 and 13 of a query, from what the loop has found and the first illegal byte.
use mathlib.Core.Path.{◌≡◌, sym, ap, ◌∙◌}
use mathlib.Core.List.{List, []}
use Prim.Native.Nat.{ℕ, ◌≤◌, ◌<◌, min}
use native.Mathlib.Omega.{arith}
use native.Mathlib.Nat.{zero-add}
use lib.ListN.{length, take}
use lib.Seq.{length-take-le, get_or-take}
use borrow.Author.Tests.{lt-ltb, le-ltb}
use Rattle.definition.specs.Text.{Text, span, is_legal}
use Rattle.definition.specs.Limits.{QUERY_BYTES, TOKENS}
use Rattle.definition.specs.Answer.{ok, refused}
use Rattle.definition.specs.Token.{tokens, stopped, lex, lexed}
use Rattle.lexer.specs.Tokens.{tokens_of, Inside}
use Rattle.lexer.specs.Scans.{Before}
use Rattle.lexer.specs.Answers.{query_tokens}
use Rattle.lexer.proofs.Reading.{after_end, place_token, tokens_ext}

pub too_long : (query : Text) → QUERY_BYTES < length query → refused 8 QUERY_BYTES ≡ query_tokens query
unfolding query_tokens
too_long query h = rw (lt-ltb QUERY_BYTES (length query) h)

module _ (query : Text) (short : length query ≤ QUERY_BYTES) where
  pub no_token : {p : ℕ} → lex query 0 0 0 ≡ stopped p → refused 9 (min p (span is_legal query)) ≡ query_tokens query
  unfolding query_tokens lexed
  no_token e = rw (le-ltb QUERY_BYTES (length query) short, e)

  module _ {words : List ℕ} {count over : ℕ} (b : Before query words count over (tokens [])) where
    whole : lex query 0 0 0 ≡ tokens b.read
    whole = b.whole ∙ after_end b.read

    pub bad_byte : span is_legal query < length query → refused 9 (span is_legal query) ≡ query_tokens query
    unfolding query_tokens lexed
    bad_byte h = rw (le-ltb QUERY_BYTES (length query) short, whole, lt-ltb (span is_legal query) (length query) h)

    module _ (legal : length query ≤ span is_legal query) where
      pub too_many : TOKENS < count → refused 13 over ≡ query_tokens query
      unfolding query_tokens lexed
      too_many h =
          let m : TOKENS < length b.read = omega (arith, b.many) in
          rw (le-ltb QUERY_BYTES (length query) short, whole, le-ltb (span is_legal query) (length query) legal, lt-ltb TOKENS (length b.read) m, place_token (length query) b.read TOKENS m, b.next h)

      pub all_read : count ≤ TOKENS → TOKENS ≤ length words → ok (tokens_of query 0 (take count words)) ≡ query_tokens query
      unfolding query_tokens lexed
      all_read h room =
          let m : length b.read ≤ TOKENS = omega (arith, b.many) in
          let t : tokens_of query 0 (take count words) ≡ b.read
          = tokens_ext query 0 (take count words) b.read (length-take-le count words (omega arith) ∙ sym b.many)
          (λ i l. let q : i < count = omega (arith, b.many) in
          b.held i q (omega arith) ∙ rw (zero-add i, get_or-take count words i 0 q)) in
          rw (le-ltb QUERY_BYTES (length query) short, whole, le-ltb (span is_legal query) (length query) legal, le-ltb TOKENS (length b.read) m) (ap ok t)

    -- the tokens' texts
    pub all_inside : count ≤ TOKENS → TOKENS ≤ length words → Inside query (take count words)
    all_inside h room i l =
        let q : i < count = omega (arith, length-take-le count words (omega arith)) in
        rw (get_or-take count words i 0 q) (b.inside i q (omega arith))

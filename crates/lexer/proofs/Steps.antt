-- One turn of the loop over a query: what a segment adds to the tokens read.
use mathlib.Core.Path.{◌≡◌, sym, ap, subst, ◌∙◌}
use mathlib.Core.Bool.{cond}
use mathlib.Core.List.{List, []}
use Prim.Native.Nat.{ℕ, ◌+◌, ◌*◌, ◌≤◌, ◌<◌}
use native.Mathlib.Numerals.{add-one}
use native.Mathlib.Omega.{arith}
use lib.Dec.{eqb}
use lib.ListN.{length, take, drop, set}
use Rattle.definition.specs.Text.{Text}
use Rattle.definition.specs.Limits.{TOKENS}
use Rattle.definition.specs.Token.{gap, token, tokens, stopped, lex}
use Rattle.lexer.specs.declared.Segment.{Segment}
use Rattle.lexer.specs.declared.Segment.TheVariants.{Gap, Lexeme, Neither}
use Rattle.lexer.specs.Tokens.{terminal_of, quote_of}
use Rattle.lexer.specs.Segments.{piece_of, first_piece, Small}
use Rattle.lexer.specs.Scans.{Before}
use Rattle.lexer.proofs.Lexing.{gap_within, token_within, lex_end, lex_gap, lex_token, lex_neither}
use Rattle.lexer.proofs.Packing.{token_is, start_is}
use Rattle.lexer.proofs.Reading.{before_same, before_token, after_stop}

module _ (query : Text) (at : ℕ) (h : at < length query) (s : Segment) (e : piece_of (drop at query) s ≡ first_piece (drop at query)) where
  is_gap : {n : ℕ} → s ≡ Gap n → first_piece (drop at query) ≡ gap n
  is_gap q = sym e ∙ ap (piece_of (drop at query)) q

  is_token : {k m n : ℕ} → s ≡ Lexeme k m n → first_piece (drop at query) ≡ token (terminal_of k) (take m (drop (quote_of k) (drop at query))) n
  is_token q = sym e ∙ ap (piece_of (drop at query)) q

  pub past_gap : {n : ℕ} → s ≡ Gap n → (at < at + n) × (at + n ≤ length query)
  past_gap q = gap_within query at h (is_gap q)

  pub past_token : {k m n : ℕ} → s ≡ Lexeme k m n → (at < at + n) × (at + n ≤ length query)
  past_token q = token_within query at h (is_token q)

  module _ {words : List ℕ} {count over : ℕ} (b : Before query words count over (lex (drop at query) 0 at count)) where
    pub step_gap : {n : ℕ} → s ≡ Gap n → Before query words count over (lex (drop (at + n) query) 0 (at + n) count)
    step_gap q = before_same (lex_gap query at h count (is_gap q)) b

    pub step_stop : s ≡ Neither → lex query 0 0 0 ≡ stopped at
    step_stop q = b.whole ∙ rw (lex_neither query at h count (sym e ∙ ap (piece_of (drop at query)) q)) (after_stop b.read at)

    pub step_token : {k m n : ℕ} → s ≡ Lexeme k m n → Small s → TOKENS ≤ length words
        → Before query (set words count (k + 64 * (m + 64 * at))) (count + 1) (cond (eqb count TOKENS) at over) (lex (drop (at + n) query) 0 (at + n) (count + 1))
    step_token {k} {m} {n} q small room =
        let f = subst Small q small in
        before_token (record { terminal = terminal_of k count; text = take m (drop (quote_of k) (drop at query)); at = at }) (k + 64 * (m + 64 * at))
        (lex (drop (at + n) query) 0 (at + n) (count + 1)) room (token_is k m at f.kind f.size query count)
        (rw (start_is k m at f.kind f.size) (omega (arith, past_token q, f.text)))
        (before_same (lex_token query at h count (is_token q) ∙ rw (add-one count)) b)

-- the end of the query
pub step_end : (query : Text) (at : ℕ) {words : List ℕ} {count over : ℕ} → length query ≤ at → Before query words count over (lex (drop at query) 0 at count)
    → Before query words count over (tokens [])
step_end query at {words} {count} {over} h b = before_same (lex_end query at count h) b

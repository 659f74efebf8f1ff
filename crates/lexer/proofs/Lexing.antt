-- How a loop over the query meets the definition: one piece at a time.
use mathlib.Core.Path.{◌≡◌, ◌∙◌}
use mathlib.Core.List.{[]}
use Prim.Native.Nat.{ℕ, suc, ◌+◌, ◌-◌, ◌≤◌, ◌<◌}
use native.Mathlib.Omega.{arith}
use lib.ListN.{length, drop, get_or, drop_of_length-le, length-drop}
use lib.Seq.{drop-cons, drop-drop}
use Rattle.definition.specs.Text.{Text}
use Rattle.definition.specs.Token.{Terminal, gap, token, neither, tokens, stopped, add, on_piece, lex}
use Rattle.definition.proofs.TextLaws.{lex_skip}
use Rattle.lexer.specs.Segments.{first_piece}
use Rattle.lexer.proofs.Sizes.{Sized, sized_gap, sized_token, piece_sized}

module _ (text : Text) (at : ℕ) where
  pub lex_end : (n : ℕ) → length text ≤ at → lex (drop at text) 0 at n ≡ tokens []
  unfolding lex
  lex_end n h = rw (drop_of_length-le text h)

  -- the rest of the text after a piece of k bytes
  rest_after : (k n : ℕ) → at < length text → 0 < k → k ≤ length (drop at text) → lex (drop (suc at) text) (k - 1) (suc at) n ≡ lex (drop (at + k) text) 0 (at + k) n
  rest_after k n h a b =
      let e : suc at + (k - 1) ≡ at + k = omega arith in
      lex_skip (drop (suc at) text) (k - 1) (suc at) n (simp length-drop (omega (arith, length-drop at text)))
      ∙ rw (drop-drop, e)

  module _ (h : at < length text) where
    sized : Sized (length (drop at text)) (first_piece (drop at text))
    sized = rw (drop-cons text at 0 h) (piece_sized (get_or text at 0) (drop (suc at) text))

    on_first : (n : ℕ) → lex (drop at text) 0 at n ≡ on_piece (first_piece (drop at text)) (λ s m. lex (drop (suc at) text) s (suc at) m) at n
    unfolding lex
    on_first n = rw (drop-cons text at 0 h)

    -- a piece's length, when it has one
    gap_size : {k : ℕ} → first_piece (drop at text) ≡ gap k → (0 < k) × (k ≤ length (drop at text))
    gap_size {k} e = go (rw e at sized)
      where
        go : {m : ℕ} → Sized m (gap k) → (0 < k) × (k ≤ m)
        go (sized_gap a b) = (a, b)

    token_size : {f : ℕ → Terminal} {w : Text} {k : ℕ} → first_piece (drop at text) ≡ token f w k → (0 < k) × (k ≤ length (drop at text))
    token_size {f} {w} {k} e = go (rw e at sized)
      where
        go : {m : ℕ} → Sized m (token f w k) → (0 < k) × (k ≤ m)
        go (sized_token a b) = (a, b)

    pub gap_within : {k : ℕ} → first_piece (drop at text) ≡ gap k → (at < at + k) × (at + k ≤ length text)
    gap_within e = let s = gap_size e in (omega arith, omega (arith, length-drop at text))

    pub token_within : {f : ℕ → Terminal} {w : Text} {k : ℕ} → first_piece (drop at text) ≡ token f w k → (at < at + k) × (at + k ≤ length text)
    token_within e = let s = token_size e in (omega arith, omega (arith, length-drop at text))

    pub lex_neither : (n : ℕ) → first_piece (drop at text) ≡ neither → lex (drop at text) 0 at n ≡ stopped at
    lex_neither n e = on_first n ∙ rw e

    pub lex_gap : (n : ℕ) {k : ℕ} → first_piece (drop at text) ≡ gap k → lex (drop at text) 0 at n ≡ lex (drop (at + k) text) 0 (at + k) n
    lex_gap n {k} e = let s = gap_size e in on_first n ∙ rw e (rest_after k n h s.0 s.1)

    pub lex_token : (n : ℕ) {f : ℕ → Terminal} {w : Text} {k : ℕ} → first_piece (drop at text) ≡ token f w k
        → lex (drop at text) 0 at n ≡ add (record { terminal = f n; text = w; at = at }) (lex (drop (at + k) text) 0 (at + k) (suc n))
    lex_token n {f} {w} {k} e = let s = token_size e in on_first n ∙ rw (e, rest_after k (suc n) h s.0 s.1)

-- The marks by their first three bytes, with 0 for a byte past the end: no mark holds it.
use mathlib.Core.Path.{◌≡◌, refl, sym}
use mathlib.Core.Bool.{Bool, true, false, ◌&&◌, cond}
use mathlib.Core.List.{List, [], ◌∷◌}
use Prim.Native.Nat.{ℕ}
use lib.Dec.{T, eqb, ltb, leb, lit<, ltb→lt, leb→le}
use native.Mathlib.Omega.{arith}
use lib.ListN.{get_or}
use borrow.Author.Tests.{ne_eqb}
use Rattle.definition.specs.Text.{Text, starts}
use Rattle.definition.specs.Token.{token, first_mark, marks}
use Rattle.lexer.specs.declared.Segment.{Segment}
use Rattle.lexer.specs.declared.Segment.TheVariants.{Lexeme, Neither}
use Rattle.lexer.specs.Tokens.{terminal_of, sign_of, quote_of}
use Rattle.lexer.specs.Segments.{piece_of, Small, Marked}

pub three_bytes : (x : ℕ) (xs : Text) → first_mark marks (x ∷ xs) ≡ first_mark marks (x ∷ get_or xs 0 0 ∷ get_or xs 1 0 ∷ [])
unfolding first_mark marks starts
three_bytes x [] = refl
three_bytes x (y ∷ []) = refl
three_bytes x (y ∷ z ∷ zs) = refl

small_if : (b : Bool) (s t : Segment) → Small s → Small t → Small (cond b s t)
small_if true s t p q = p
small_if false s t p q = q

pub small : (k n : ℕ) → T (ltb k 64) → T (leb (quote_of k) n) → Small (Lexeme k 0 n)
small k n h q = record { kind = ltb→lt k 64 h; size = lit< tt; text = omega (arith, leb→le (quote_of k) n q) }

pub is_mark : {r s : Segment} {b x y z : ℕ} → r ≡ s → b ≡ x → Marked x y z s → Marked b y z r
is_mark e f m = rw (e, f) m

-- a mark of two bytes, or the other segment
two : (xs : Text) (k : ℕ) (o : Segment) (c : Bool) → piece_of xs (cond c (Lexeme k 0 2) o) ≡ cond (c && true) (token (terminal_of k) [] 2) (piece_of xs o)
two xs k o true = refl
two xs k o false = refl

module _ (y z : ℕ) where
  pub colon : Marked 58 y z (cond (eqb 61 y) (Lexeme 8 0 2) Neither)
  unfolding first_mark marks starts terminal_of sign_of quote_of
  colon = record { piece = λ xs. two xs 8 Neither (eqb 61 y); small = small_if (eqb 61 y) (Lexeme 8 0 2) Neither (small 8 2 tt tt) tt }

  pub bang : Marked 33 y z (cond (eqb 61 y) (Lexeme 42 0 2) (Lexeme 11 0 1))
  unfolding first_mark marks starts terminal_of sign_of quote_of
  bang = record { piece = λ xs. two xs 42 (Lexeme 11 0 1) (eqb 61 y); small = small_if (eqb 61 y) (Lexeme 42 0 2) (Lexeme 11 0 1) (small 42 2 tt tt) (small 11 1 tt tt) }

  pub dash : Marked 45 y z (cond (eqb 62 y) (Lexeme 12 0 2) Neither)
  unfolding first_mark marks starts terminal_of sign_of quote_of
  dash = record { piece = λ xs. two xs 12 Neither (eqb 62 y); small = small_if (eqb 62 y) (Lexeme 12 0 2) Neither (small 12 2 tt tt) tt }

  pub more : Marked 62 y z (cond (eqb 61 y) (Lexeme 46 0 2) (Lexeme 45 0 1))
  unfolding first_mark marks starts terminal_of sign_of quote_of
  more = record { piece = λ xs. two xs 46 (Lexeme 45 0 1) (eqb 61 y); small = small_if (eqb 61 y) (Lexeme 46 0 2) (Lexeme 45 0 1) (small 46 2 tt tt) (small 45 1 tt tt) }

  shorter : Segment
  shorter = cond (eqb 61 y) (Lexeme 44 0 2) (Lexeme 43 0 1)

  arrow : (xs : Text) (a b d : Bool) → piece_of xs (cond a (cond b (Lexeme 13 0 3) (cond d (Lexeme 44 0 2) (Lexeme 43 0 1))) (cond d (Lexeme 44 0 2) (Lexeme 43 0 1)))
      ≡ cond (a && (b && true)) (token (terminal_of 13) [] 3) (cond (d && true) (token (terminal_of 44) [] 2) (token (terminal_of 43) [] 1))
  arrow xs true true d = refl
  arrow xs true false true = refl
  arrow xs true false false = refl
  arrow xs false b true = refl
  arrow xs false b false = refl

  pub less : Marked 60 y z
      (cond (eqb 45 y) (cond (eqb 62 z) (Lexeme 13 0 3) (cond (eqb 61 y) (Lexeme 44 0 2) (Lexeme 43 0 1))) (cond (eqb 61 y) (Lexeme 44 0 2) (Lexeme 43 0 1)))
  unfolding first_mark marks starts terminal_of sign_of quote_of shorter
  less =
      let o : Small shorter = small_if (eqb 61 y) (Lexeme 44 0 2) (Lexeme 43 0 1) (small 44 2 tt tt) (small 43 1 tt tt) in
      record {
        piece = λ xs. arrow xs (eqb 45 y) (eqb 62 z) (eqb 61 y);
        small = small_if (eqb 45 y) (cond (eqb 62 z) (Lexeme 13 0 3) shorter) shorter (small_if (eqb 62 z) (Lexeme 13 0 3) shorter (small 13 3 tt tt) o) o;
      }

-- no mark begins with any other byte
module _ (x y z : ℕ) where
  abbrev Other : List ℕ → Type 0
  Other [] = Unit {0}
  Other (k ∷ ks) = Other ks × (x ≡ k → ⊥)

  pub no_mark : Other (47 ∷ 43 ∷ 35 ∷ 64 ∷ 62 ∷ 60 ∷ 61 ∷ 45 ∷ 33 ∷ 124 ∷ 38 ∷ 58 ∷ 59 ∷ 44 ∷ 93 ∷ 91 ∷ 125 ∷ 123 ∷ 41 ∷ 40 ∷ []) → Marked x y z Neither
  unfolding first_mark marks starts
  no_mark h = record {
    small = tt;
    piece = λ xs.
        simp (
          ne_eqb 47 x (λ e. h.1 (sym e)),
          ne_eqb 43 x (λ e. h.0.1 (sym e)),
          ne_eqb 35 x (λ e. h.0.0.1 (sym e)),
          ne_eqb 64 x (λ e. h.0.0.0.1 (sym e)),
          ne_eqb 62 x (λ e. h.0.0.0.0.1 (sym e)),
          ne_eqb 60 x (λ e. h.0.0.0.0.0.1 (sym e)),
          ne_eqb 61 x (λ e. h.0.0.0.0.0.0.1 (sym e)),
          ne_eqb 45 x (λ e. h.0.0.0.0.0.0.0.1 (sym e)),
          ne_eqb 33 x (λ e. h.0.0.0.0.0.0.0.0.1 (sym e)),
          ne_eqb 124 x (λ e. h.0.0.0.0.0.0.0.0.0.1 (sym e)),
          ne_eqb 38 x (λ e. h.0.0.0.0.0.0.0.0.0.0.1 (sym e)),
          ne_eqb 58 x (λ e. h.0.0.0.0.0.0.0.0.0.0.0.1 (sym e)),
          ne_eqb 59 x (λ e. h.0.0.0.0.0.0.0.0.0.0.0.0.1 (sym e)),
          ne_eqb 44 x (λ e. h.0.0.0.0.0.0.0.0.0.0.0.0.0.1 (sym e)),
          ne_eqb 93 x (λ e. h.0.0.0.0.0.0.0.0.0.0.0.0.0.0.1 (sym e)),
          ne_eqb 91 x (λ e. h.0.0.0.0.0.0.0.0.0.0.0.0.0.0.0.1 (sym e)),
          ne_eqb 125 x (λ e. h.0.0.0.0.0.0.0.0.0.0.0.0.0.0.0.0.1 (sym e)),
          ne_eqb 123 x (λ e. h.0.0.0.0.0.0.0.0.0.0.0.0.0.0.0.0.0.1 (sym e)),
          ne_eqb 41 x (λ e. h.0.0.0.0.0.0.0.0.0.0.0.0.0.0.0.0.0.0.1 (sym e)),
          ne_eqb 40 x (λ e. h.0.0.0.0.0.0.0.0.0.0.0.0.0.0.0.0.0.0.0.1 (sym e)),
        );
  }

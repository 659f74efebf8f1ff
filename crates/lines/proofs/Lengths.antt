-- How long an element and a line can be.
use Rattle.std.specs.Prelude.{if◌then◌else◌}
use Prim.Native.Nat.{ℕ, ◌+◌, ◌*◌, ◌/◌, ◌%◌, ◌<◌, ◌≤◌}
use mathlib.Core.Path.{◌≡◌, sym, ap, subst}
use mathlib.Core.Bool.{Bool, true, false}
use mathlib.Core.List.{List, [], ◌∷◌, ◌++◌}
use mathlib.Core.Logic.{⊎_elim}
use native.Mathlib.Nat.{le_trans, min-le_left, suc-mul}
use native.Mathlib.Omega.{arith}
use borrow.Author.Tests.{eq-eqb, ne_eqb}
use lib.Dec.{eqb}
use lib.ListN.{length, get_or, length-append, length-take, get_or-eq_default}
use Rattle.definition.specs.Text.{Text, gather}
use Rattle.definition.specs.Tables.{Tuple}
use Rattle.parts.specs.Packed.{tag_of, text_of}
use Rattle.lines.specs.Lines.{Texts, texts, element_at, shown_at, shown_most, after, line_of}
use Rattle.lines.proofs.Puts.{le_or_lt}
use Rattle.lines.proofs.LineLaws.{line_label, line_bare, line_empty}

module _ (w : ℕ) where
  pub most_quoted : w % 4 ≡ 1 → w / 8 % 64 + 2 ≡ shown_most w
  most_quoted h = ap (λ (b : Bool). if b then (w / 8 % 64 + 2) else (w / 8 % 64)) (sym (eq-eqb (w % 4) 1 h))

  pub most_bare : (w % 4 ≡ 1 → ⊥) → w / 8 % 64 ≡ shown_most w
  most_bare h = ap (λ (b : Bool). if b then (w / 8 % 64 + 2) else (w / 8 % 64)) (sym (ne_eqb (w % 4) 1 h))

  pub most_small : shown_most w ≤ 65
  most_small = go (eqb (tag_of w) 1)
    where
      go : (b : Bool) → (if b then (w / 8 % 64 + 2) else (w / 8 % 64)) ≤ 65
      go true = omega arith
      go false = omega arith

pub text_within : (f q : Text) (w : ℕ) → length (text_of f q w) ≤ w / 8 % 64
unfolding text_of
text_within f q w = subst (λ (n : ℕ). n ≤ w / 8 % 64) (sym (length-take (w / 8 % 64) _)) (min-le_left (w / 8 % 64) _)

module _ (T : Texts) where
  pub shown_within : (a : ℕ) → length (shown_at T a) ≤ shown_most (get_or T.places a 0)
  unfolding shown_at
  shown_within a = go (eqb (tag_of (get_or T.places a 0)) 1)
    where
      w : ℕ
      w = get_or T.places a 0

      go : (b : Bool) → length (if b then (34 ∷ element_at T a ++ (34 ∷ [])) else (element_at T a)) ≤ (if b then (w / 8 % 64 + 2) else (w / 8 % 64))
      go true = omega (arith, length-append (element_at T a) (34 ∷ []), text_within T.facts T.query w)
      go false = text_within T.facts T.query w

-- no element before place k is longer than m
abbrev pub Most : List ℕ → ℕ → ℕ → Type 0
Most ps k m = (a : ℕ) → a < k → shown_most (get_or ps a 0) ≤ m

pub most_all : (ps : List ℕ) (k m : ℕ) → length ps ≤ k → Most ps k m → (f q : Text) (a : ℕ) → length (shown_at (texts f q ps) a) ≤ m
most_all ps k m l h f q a = le_trans (shown_within (texts f q ps) a) (⊎_elim past (h a) (le_or_lt k a))
  where
    past : k ≤ a → shown_most (get_or ps a 0) ≤ m
    past g = subst (λ (w : ℕ). shown_most w ≤ m) (sym (get_or-eq_default ps 0 (omega arith))) (omega arith)

-- the line of a tuple none of whose elements is longer than m
module _ (T : Texts) (m : ℕ) (h : (a : ℕ) → length (shown_at T a) ≤ m) where
  after_most : (t : Tuple) → length (gather (after T) t) ≤ length t * (m + 1)
  unfolding gather
  after_most [] = omega arith
  after_most (a ∷ t) = omega (arith, length-append (after T a) (gather (after T) t), h a, after_most t, suc-mul (length t) (m + 1))

  pub line_most_labelled : (l : Text) (t : Tuple) → length (line_of T (l ∷ []) t) ≤ length l + length t * (m + 1) + 1
  line_most_labelled l t =
      omega (arith, ap length (line_label T l t), length-append (l ++ gather (after T) t) (10 ∷ []), length-append l (gather (after T) t), after_most t)

  -- the last element has the line's end after it in place of a space
  pub line_most_bare : (t : Tuple) → 0 < length t → length (line_of T [] t) ≤ length t * (m + 1)
  line_most_bare [] l = absurd (omega arith)
  line_most_bare (a ∷ t) l =
      omega (arith, ap length (line_bare T a t), length-append (shown_at T a ++ gather (after T) t) (10 ∷ []), length-append (shown_at T a) (gather (after T) t), h a, after_most t, suc-mul (length t) (m + 1))

  pub line_most_empty : (t : Tuple) → length t ≡ 0 → length (line_of T [] t) ≤ 1
  line_most_empty [] e = omega (arith, ap length (line_empty T))
  line_most_empty (a ∷ t) e = absurd (omega arith)

-- The line of a tuple, part by part, and as the definition says it.
use Rattle.std.specs.Prelude.{if◌then◌else◌}
use Prim.Native.Nat.{ℕ, ◌+◌, ◌-◌, ◌%◌, ◌<◌, ◌≤◌}
use mathlib.Core.Path.{◌≡◌, refl, sym, ap, ap₂, ◌∙◌}
use mathlib.Core.Bool.{Bool}
use mathlib.Core.List.{List, [], ◌∷◌, ◌++◌, map, append-nil}
use borrow.Author.Tests.{eq-eqb, ne_eqb}
use lib.Dec.{eqb}
use lib.ListN.{length, get_or, take, drop}
use Rattle.definition.specs.Text.{Text, gather}
use Rattle.definition.specs.Tables.{Tuple}
use Rattle.definition.specs.Accept.{Accepted, elements}
use Rattle.definition.specs.Assignment.{element_text}
use Rattle.definition.specs.Print.{spaced, in_quotes, shown}
use Rattle.definition.proofs.TableLaws.{Below}
use Rattle.tuples.proofs.Turns.{rest_cons, rest_none}
use Rattle.parts.specs.Packed.{tag_of}
use Rattle.lines.specs.Lines.{Texts, element_at, shown_at, after, line_of}

module _ (T : Texts) where
  spaced_after : (l : Text) (t : Tuple) → spaced (l ∷ map (shown_at T) t) ≡ l ++ gather (after T) t
  unfolding spaced gather
  spaced_after l [] = sym (append-nil l)
  spaced_after l (a ∷ t) = ap (λ (s : Text). l ++ (32 ∷ s)) (spaced_after (shown_at T a) t)

  pub line_label : (l : Text) (t : Tuple) → (l ++ gather (after T) t) ++ (10 ∷ []) ≡ line_of T (l ∷ []) t
  unfolding line_of
  line_label l t = ap (λ (s : Text). s ++ (10 ∷ [])) (sym (spaced_after l t))

  pub line_bare : (a : ℕ) (t : Tuple) → (shown_at T a ++ gather (after T) t) ++ (10 ∷ []) ≡ line_of T [] (a ∷ t)
  unfolding line_of
  line_bare a t = ap (λ (s : Text). s ++ (10 ∷ [])) (sym (spaced_after (shown_at T a) t))

  pub line_empty : 10 ∷ [] ≡ line_of T [] []
  unfolding line_of spaced
  line_empty = refl

  -- an element whose place is x and whose text is t
  module _ (a x : ℕ) (t : Text) (p : x ≡ get_or T.places a 0) (e : t ≡ element_at T a) where
    pub shown_quoted : x % 4 ≡ 1 → 34 ∷ (t ++ (34 ∷ [])) ≡ shown_at T a
    unfolding shown_at
    shown_quoted h =
        ap (λ (s : Text). 34 ∷ (s ++ (34 ∷ []))) e
        ∙ ap (λ (b : Bool). if b then (34 ∷ element_at T a ++ (34 ∷ [])) else (element_at T a)) (sym (ap (λ (y : ℕ). eqb (y % 4) 1) (sym p) ∙ eq-eqb (x % 4) 1 h))

    pub shown_bare : (x % 4 ≡ 1 → ⊥) → t ≡ shown_at T a
    unfolding shown_at
    shown_bare h =
        e
        ∙ ap (λ (b : Bool). if b then (34 ∷ element_at T a ++ (34 ∷ [])) else (element_at T a)) (sym (ap (λ (y : ℕ). eqb (y % 4) 1) (sym p) ∙ ne_eqb (x % 4) 1 h))

  -- one element more of those that follow a space
  pub after_cons : (n k : ℕ) (t : Tuple) → k < n → n ≤ length t
      → after T (get_or t k 0) ++ gather (after T) (take (n - (k + 1)) (drop (k + 1) t)) ≡ gather (after T) (take (n - k) (drop k t))
  unfolding gather
  after_cons n k t h l = ap (gather (after T)) (sym (rest_cons n k t h l))

  pub after_none : (n k : ℕ) (t : Tuple) → n ≤ k → [] ≡ gather (after T) (take (n - k) (drop k t))
  unfolding gather
  after_none n k t h = ap (gather (after T)) (sym (rest_none n k t h))

-- the places are those of the universe's elements: each has its element's text, and its tag says whether it is printed in quotes
pub record Shows (w : Accepted) (T : Texts) : Type 0 where
  pub text : (a : ℕ) → a < elements w → element_at T a ≡ element_text w a
  pub quoted : (a : ℕ) → a < elements w → eqb (tag_of (get_or T.places a 0)) 1 ≡ in_quotes w (element_text w a)

module _ (w : Accepted) (T : Texts) (s : Shows w T) where
  shown_same : (a : ℕ) → a < elements w → shown_at T a ≡ shown w a
  unfolding shown_at shown
  shown_same a h = ap₂ (λ (b : Bool) (x : Text). if b then (34 ∷ x ++ (34 ∷ [])) else x) (s.quoted a h) (s.text a h)

  all_shown : (t : Tuple) → Below (elements w) t → map (shown_at T) t ≡ map (shown w) t
  all_shown [] h = refl
  all_shown (a ∷ t) h = ap₂ ◌∷◌ (shown_same a h.0) (all_shown t h.1)

  -- the line of a tuple of the universe is the definition's
  pub line_same : (ls : List Text) (t : Tuple) → Below (elements w) t → line_of T ls t ≡ spaced (ls ++ map (shown w) t) ++ (10 ∷ [])
  unfolding line_of
  line_same ls t h = ap (λ (xs : List Text). spaced (ls ++ xs) ++ (10 ∷ [])) (all_shown t h)

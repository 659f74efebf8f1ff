-- Where a text stands in a list of parts, and its number among their texts.
use Prim.Native.Nat.{ℕ, zero, suc, ◌+◌, ◌<◌, ◌≤◌}
use mathlib.Core.Path.{◌≡◌, refl, sym, ap, subst, ◌∙◌}
use mathlib.Core.Bool.{Bool, true, false, cond, not, ◌||◌}
use mathlib.Core.List.{List, [], ◌∷◌}
use native.Mathlib.Nat.{zero-add}
use native.Mathlib.Omega.{arith}
use native.Mathlib.Decide.{dec_lt}
use lib.Dec.{T}
use lib.ListN.{length, get_or}
use Rattle.definition.specs.Text.{Text, same, span, member, some_of}
use Rattle.definition.specs.Meaning.{numbers}
use Rattle.definition.specs.Facts.{Ascending}
use Rattle.definition.proofs.UniverseLaws.{number_of, no_number}
use Rattle.parts.specs.Packed.{text_of}
use Rattle.parts.specs.Entries.{position, texts_of}
use Rattle.parts.proofs.HeldLaws.{length_texts}

module _ (facts query t : Text) where
  abbrev texts : List ℕ → List Text
  texts ws = texts_of facts query ws

  -- the test of the search
  abbrev pub differs : ℕ → Bool
  differs w = not (same t (text_of facts query w))

  -- the part there has the text
  pub position_same : (ws : List ℕ) → position facts query t ws < length ws → T (same t (get_or (texts_of facts query ws) (position facts query t ws) []))
  unfolding span
  position_same [] h = absurd (omega arith)
  position_same (w ∷ ws) h = go (same t (text_of facts query w)) refl h (position_same ws)
    where
      i : ℕ
      i = position facts query t ws

      go : (b : Bool) → same t (text_of facts query w) ≡ b → cond (not b) (suc i) 0 < suc (length ws) → (i < length ws → T (same t (get_or (texts ws) i [])))
          → T (same t (get_or (texts (w ∷ ws)) (cond (not b) (suc i) 0) []))
      go true e h ih = subst T (sym e) tt
      go false e h ih = ih (omega arith)

  -- where the search ends without one, no part has it
  pub position_none : (ws : List ℕ) → length ws ≤ position facts query t ws → member t (texts_of facts query ws) ≡ false
  unfolding span member some_of
  position_none [] h = refl
  position_none (w ∷ ws) h = go (same t (text_of facts query w)) h (position_none ws)
    where
      i : ℕ
      i = position facts query t ws

      go : (b : Bool) → suc (length ws) ≤ cond (not b) (suc i) 0 → (length ws ≤ i → member t (texts ws) ≡ false) → b || member t (texts ws) ≡ false
      go true h ih = absurd (omega arith)
      go false h ih = ih (omega arith)

  -- the number of its element, or none
  pub position_number : (ws : List ℕ) → Ascending (texts_of facts query ws) → position facts query t ws < length ws → numbers t (texts_of facts query ws) 0 ≡ position facts query t ws ∷ []
  position_number ws a h =
      number_of t (texts ws) 0 (position facts query t ws) a (rw (length_texts facts query ws) h) (position_same ws h)
      ∙ ap (λ (i : ℕ). i ∷ []) (zero-add (position facts query t ws))

  pub position_no_number : (ws : List ℕ) → length ws ≤ position facts query t ws → numbers t (texts_of facts query ws) 0 ≡ []
  position_no_number ws h = no_number t (texts ws) 0 (position_none ws h)

  get_or_texts : (ws : List ℕ) (k : ℕ) → k < length ws → get_or (texts ws) k [] ≡ text_of facts query (get_or ws k 0)
  get_or_texts [] k h = absurd (omega arith)
  get_or_texts (w ∷ ws) zero h = refl
  get_or_texts (w ∷ ws) (suc k) h = get_or_texts ws k (omega arith)

  -- in byte order no other part has it
  pub position_at : (ws : List ℕ) (k : ℕ) → Ascending (texts_of facts query ws) → k < length ws → same t (text_of facts query (get_or ws k 0)) ≡ true → k ≡ position facts query t ws
  position_at ws k a h e = go (dec_lt (position facts query t ws) (length ws))
    where
      there : same t (get_or (texts ws) k []) ≡ true
      there = ap (same t) (get_or_texts ws k h) ∙ e

      only : numbers t (texts ws) 0 ≡ (0 + k) ∷ []
      only = number_of t (texts ws) 0 k a (rw (length_texts facts query ws) h) (rw there tt)

      go : Dec (position facts query t ws < length ws) → k ≡ position facts query t ws
      go (yes l) = let z : (0 + k) ∷ [] ≡ position facts query t ws ∷ [] = sym only ∙ position_number ws a l in let y : 0 + k ≡ position facts query t ws = cc in omega arith
      go (no l) = let z : ◌≡◌ {A = ℕ} 0 1 = cc (sym only ∙ position_no_number ws (omega arith)) in absurd (omega arith)

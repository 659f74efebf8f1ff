-- What the place of a text in a list of parts says of a name's arity and of an element's number.
use Prim.Native.Nat.{ℕ, ◌+◌, ◌<◌, ◌≤◌}
use mathlib.Core.Path.{◌≡◌, refl, sym, ap, subst, ◌∙◌}
use mathlib.Core.Bool.{Bool, true, false, or-false}
use mathlib.Core.List.{List, []}
use native.Mathlib.Omega.{arith}
use native.Mathlib.Decide.{dec_lt}
use borrow.Author.Tests.{eq-eqb, ne_eqb}
use lib.Dec.{T, eqb}
use lib.ListN.{length, get_or}
use Rattle.definition.specs.Text.{Text, same, some_of}
use Rattle.definition.specs.Facts.{arities, Ascending}
use Rattle.definition.proofs.UniverseLaws.{number_of}
use Rattle.parts.specs.Packed.{tag_of}
use Rattle.parts.specs.Entries.{position, texts_of}
use Rattle.parts.proofs.HeldLaws.{length_texts}
use Rattle.parts.proofs.PositionLaws.{position_same, position_number, position_no_number}
use Rattle.facts.specs.Words.{relations_of}
use Rattle.facts.proofs.RelationLaws.{arity_known, arity_unknown}

module _ (facts t : Text) where
  abbrev place : List ℕ → ℕ
  place ws = position facts facts t ws

  pub binary_known : (ws : List ℕ) (k : ℕ) → k ≡ position facts facts t ws → k < length ws → eqb 2 (tag_of (get_or ws k 0)) ≡ some_of (eqb 2) (arities t (relations_of facts facts ws))
  unfolding some_of
  binary_known ws k e h =
      ap (λ (i : ℕ). eqb 2 (tag_of (get_or ws i 0))) e
      ∙ sym (or-false (eqb 2 (tag_of (get_or ws (place ws) 0))))
      ∙ ap (some_of (eqb 2)) (sym (arity_known facts facts t ws (subst (λ (i : ℕ). i < length ws) e h)))

  pub binary_unknown : (ws : List ℕ) (k : ℕ) → k ≡ position facts facts t ws → length ws ≤ k → false ≡ some_of (eqb 2) (arities t (relations_of facts facts ws))
  unfolding some_of
  binary_unknown ws k e h = ap (some_of (eqb 2)) (sym (arity_unknown facts facts t ws (subst (λ (i : ℕ). length ws ≤ i) e h)))

  -- in byte order the part at the place is the only one with the text
  pub element_only : (ws : List ℕ) → Ascending (texts_of facts facts ws) → (x : ℕ) → x < length ws → same t (get_or (texts_of facts facts ws) x []) ≡ eqb x (position facts facts t ws)
  element_only ws order x h = go (same t (get_or (texts_of facts facts ws) x [])) refl
    where
      l : x < length (texts_of facts facts ws)
      l = let k = length_texts facts facts ws in omega arith

      one : T (same t (get_or (texts_of facts facts ws) x [])) → Dec (place ws < length ws) → x ≡ place ws
      one s (yes d) =
          let e : 0 + x ≡ place ws = ap (λ (v : List ℕ). get_or v 0 0) (sym (number_of t (texts_of facts facts ws) 0 x order l s) ∙ position_number facts facts t ws order d) in omega arith
      one s (no d) =
          let e : ◌≡◌ {A = ℕ} 1 0 = ap length (sym (number_of t (texts_of facts facts ws) 0 x order l s) ∙ position_no_number facts facts t ws (omega arith)) in absurd (omega arith)

      go : (b : Bool) → same t (get_or (texts_of facts facts ws) x []) ≡ b → b ≡ eqb x (place ws)
      go true e = sym (eq-eqb x (place ws) (one (subst T (sym e) tt) (dec_lt (place ws) (length ws))))
      go false e = sym (ne_eqb x (place ws) (λ q. apart q))
        where
          apart : x ≡ place ws → ⊥
          apart q = subst T e (subst (λ (k : ℕ). T (same t (get_or (texts_of facts facts ws) k []))) (sym q) (position_same facts facts t ws (subst (λ (k : ℕ). k < length ws) q h)))

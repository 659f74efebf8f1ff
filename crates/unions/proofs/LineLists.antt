-- The lines of numbers, one number after the other, and of relations.
use Prim.Native.Nat.{ℕ, ◌+◌, ◌%◌, ◌≤◌, ◌<◌}
use mathlib.Core.Path.{◌≡◌, refl, sym, ap, ap₂, subst, ◌∙◌}
use mathlib.Core.Bool.{Bool, true, false, cond}
use mathlib.Core.List.{List, [], ◌∷◌, ◌++◌, append-nil}
use native.Mathlib.Numerals.{add-one}
use borrow.Author.Tests.{eq-eqb, ne_eqb}
use lib.Dec.{eqb}
use lib.ListN.{length, get_or, drop, drop_of_length-le}
use lib.Seq.{drop-cons}
use Rattle.definition.specs.Text.{Text, keep, gather}
use Rattle.numbers.proofs.SetLaws.{in_at}
use Rattle.tuples.specs.Places.{digits}
use Rattle.parts.specs.Packed.{tag_of, text_of}
use Rattle.parts.specs.Entries.{index}
use Rattle.lines.specs.Lines.{Texts, line_of}
use Rattle.unions.specs.Union.{relation_part, number_lines, all_lines, Numbered, AllNumbered}

-- the numbers of relation i, by the number that the code finds
pub numbered_at : (facts query : Text) (relations : List ℕ) (u : ℕ) (xs vs : List ℕ) → AllNumbered facts query relations u xs vs
    → (i : ℕ) → i < length vs → (k : ℕ) → k ≡ index facts query (get_or vs i 0) relations → Numbered u k (tag_of (get_or vs i 0)) xs
numbered_at facts query relations u xs vs a i h k e = subst (λ (j : ℕ). Numbered u j (tag_of (get_or vs i 0)) xs) (sym e) (a (get_or vs i 0) (in_at vs i h))

module _ (T : Texts) (r : Text) (k n : ℕ) where
  abbrev line : ℕ → Text
  line x = line_of T (r ∷ []) (digits (length T.places) n (x % 16777216))

  -- a number of the relation, and another
  pub number_line : (x : ℕ) → relation_part x ≡ k → line_of T (r ∷ []) (digits (length T.places) n (x % 16777216)) ≡ number_lines T r k n (x ∷ [])
  unfolding number_lines gather keep
  number_line x e = sym (append-nil (line x)) ∙ ap (λ (b : Bool). gather line (cond b (x ∷ []) [])) (sym (eq-eqb (relation_part x) k e))

  pub no_line : (x : ℕ) → (relation_part x ≡ k → ⊥) → [] ≡ number_lines T r k n (x ∷ [])
  unfolding number_lines gather keep
  no_line x e = ap (λ (b : Bool). gather line (cond b (x ∷ []) [])) (sym (ne_eqb (relation_part x) k e))

  lines_cons : (x : ℕ) (xs : List ℕ) → number_lines T r k n (x ∷ []) ++ number_lines T r k n xs ≡ number_lines T r k n (x ∷ xs)
  unfolding number_lines gather keep
  lines_cons x xs = go (eqb (relation_part x) k)
    where
      rest : List ℕ
      rest = keep (λ y. eqb (relation_part y) k) xs

      go : (b : Bool) → gather line (cond b (x ∷ []) []) ++ gather line rest ≡ gather line (cond b (x ∷ rest) rest)
      go true = ap (λ (l : Text). l ++ gather line rest) (append-nil (line x))
      go false = refl

  -- those from number i on
  pub numbers_next : (xs : List ℕ) (i : ℕ) → i < length xs
      → number_lines T r k n (get_or xs i 0 ∷ []) ++ number_lines T r k n (drop (i + 1) xs) ≡ number_lines T r k n (drop i xs)
  numbers_next xs i h =
      ap (λ (j : ℕ). number_lines T r k n (get_or xs i 0 ∷ []) ++ number_lines T r k n (drop j xs)) (add-one i)
      ∙ lines_cons (get_or xs i 0) _
      ∙ ap (number_lines T r k n) (sym (drop-cons xs i 0 h))

  pub numbers_end : (xs : List ℕ) (i : ℕ) → length xs ≤ i → [] ≡ number_lines T r k n (drop i xs)
  unfolding number_lines gather keep
  numbers_end xs i h = ap (number_lines T r k n) (sym (drop_of_length-le xs h))

module _ (T : Texts) (relations xs : List ℕ) where
  -- with the name and the number that the code finds
  pub relations_next : (vs : List ℕ) (i : ℕ) → i < length vs
      → (r : Text) (k : ℕ) → r ≡ text_of T.facts T.query (get_or vs i 0) → k ≡ index T.facts T.query (get_or vs i 0) relations
      → number_lines T r k (tag_of (get_or vs i 0)) xs ++ all_lines T relations xs (drop (i + 1) vs) ≡ all_lines T relations xs (drop i vs)
  unfolding all_lines gather
  relations_next vs i h r k e f =
      ap₂ (λ (l : Text) (j : ℕ). l ++ all_lines T relations xs (drop j vs)) (ap₂ (λ (s : Text) (j : ℕ). number_lines T s j (tag_of (get_or vs i 0)) xs) e f) (add-one i)
      ∙ ap (all_lines T relations xs) (sym (drop-cons vs i 0 h))

  pub relations_end : (vs : List ℕ) (i : ℕ) → length vs ≤ i → [] ≡ all_lines T relations xs (drop i vs)
  unfolding all_lines gather
  relations_end vs i h = ap (all_lines T relations xs) (sym (drop_of_length-le vs h))

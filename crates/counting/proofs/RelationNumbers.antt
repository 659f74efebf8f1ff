-- The numbers of a relation, in the set of all facts' numbers, are those of its tuples.
use Prim.Native.Nat.{ℕ, ◌+◌, ◌*◌, ◌^◌, ◌%◌, ◌≤◌, ◌<◌}
use mathlib.Core.Path.{◌≡◌, refl, sym, ap, ap₂, ◌∙◌}
use mathlib.Core.Bool.{Bool}
use mathlib.Core.List.{List, [], ◌∷◌, map, map-map}
use native.Mathlib.Omega.{arith}
use lib.Dec.{eqb}
use lib.ListN.{length, get_or}
use Rattle.definition.specs.Text.{some_of, keep, below}
use Rattle.definition.specs.Limits.{document_01}
use Rattle.definition.specs.Tables.{Tuple, tuples}
use Rattle.definition.specs.Accept.{Accepted, elements}
use Rattle.definition.specs.Assignment.{fact_holds}
use Rattle.definition.specs.Join.{relation_tuples}
use Rattle.definition.proofs.InLaws.{In, here, there}
use Rattle.definition.proofs.TupleLaws.{keep_map}
use Rattle.definition.proofs.RelationLaws.{no_relation}
use Rattle.definition.proofs.SoundLaws.{Sound}
use Rattle.tuples.specs.Places.{digits}
use Rattle.tuples.proofs.Lists.{tuples_digits}
use Rattle.numbers.proofs.KeptLaws.{kept_told}
use Rattle.counting.specs.Tallies.{relation_of}
use Rattle.counting.specs.FactNumbers.{number_set}
use Rattle.counting.proofs.FactCounts.{few, relation_set}

-- what two functions give, where they agree on all of a list
same_map : {A : Type 0} (f g : ℕ → A) (xs : List ℕ) → ((x : ℕ) → In x xs → f x ≡ g x) → map f xs ≡ map g xs
same_map f g [] h = refl
same_map f g (x ∷ xs) h = ap₂ ◌∷◌ (h x (here refl)) (same_map f g xs (λ y i. h y (there i)))

-- the last 24 bits of shifted numbers
low_part : (k i : ℕ) → i < 16777216 → (k * 16777216 + i) % 16777216 ≡ i
low_part k i h = omega arith

module _ (u n k : ℕ) (p : ℕ → Bool) (small : u ^ n ≤ 16777216) where
  unshifted : map (λ x. digits u n (x % 16777216)) (map (λ i. k * 16777216 + i) (keep p (below (u ^ n)))) ≡ map (digits u n) (keep p (below (u ^ n)))
  unshifted =
      map-map (λ x. digits u n (x % 16777216)) (λ i. k * 16777216 + i) (keep p (below (u ^ n)))
      ∙ same_map (λ i. digits u n ((k * 16777216 + i) % 16777216)) (digits u n) (keep p (below (u ^ n))) (λ i h. ap (digits u n) (low_part k i (omega (arith, (kept_told p (u ^ n) 0 i h).1))))

-- the tuples that pass a test, by their numbers
kept_tuples : (u n : ℕ) (f : Tuple → Bool) → map (digits u n) (keep (λ i. f (digits u n i)) (below (u ^ n))) ≡ keep f (tuples u n)
kept_tuples u n f = sym (keep_map f (digits u n) (below (u ^ n))) ∙ ap (keep f) (sym (tuples_digits u n))

module _ (w : Accepted) (sound : Sound document_01 w) where
  pub relation_numbers : (k : ℕ) → k < length w.relations
      → map (λ x. digits (elements w) (get_or w.relations k no_relation).arity (x % 16777216)) (keep (λ x. eqb (relation_of x) k) (number_set w w.facts)) ≡ relation_tuples w (get_or w.relations k no_relation)
  unfolding relation_tuples
  relation_numbers k h =
      ap (map (λ x. digits u n (x % 16777216))) (relation_set w sound k h)
      ∙ unshifted u n k (λ i. given (digits u n i)) (few w sound k)
      ∙ kept_tuples u n given
    where
      u : ℕ
      u = elements w

      n : ℕ
      n = (get_or w.relations k no_relation).arity

      given : Tuple → Bool
      given t = some_of (fact_holds w (get_or w.relations k no_relation).name t) w.facts

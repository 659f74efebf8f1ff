-- The free attributes of an expression are listed once each.
use mathlib.Core.Path.{refl, subst}
use mathlib.Core.Logic.{◌⊎◌, inl, inr}
use mathlib.Core.Bool.{Bool, true, false, not, ◌||◌, cond}
use mathlib.Core.List.{List, [], ◌∷◌, ◌++◌}
use lib.Dec.{T, not_T}
use Rattle.definition.specs.Text.{Text, same, member, some_of, keep}
use Rattle.definition.specs.Syntax.{Term, name, string, anything, Expression, atom, truth, falsity, compare, matching, negation, conjunction, disjunction, implication, equivalence, exists, for_all, closure_of, compare_relations, literal, count_of, sum_of, ratio_of, compare_figures}
use Rattle.definition.specs.Names.{free, join, attributes}
use Rattle.definition.proofs.BoolLaws.{or_cases, or_left, or_right, not_both, is_false}
use Rattle.definition.proofs.DistinctLaws.{Distinct, distinct_none, distinct_one}
use Rattle.definition.proofs.MeaningLaws.{member_first, member_later, kept_member}

keep_distinct : (p : Text → Bool) {xs : List Text} → Distinct xs → Distinct (keep p xs)
unfolding keep
keep_distinct p distinct_none = distinct_none
keep_distinct p (distinct_one {x} {xs} m d) = go (p x) (keep_distinct p d)
  where
    go : (b : Bool) → Distinct (keep p xs) → Distinct (cond b (x ∷ keep p xs) (keep p xs))
    go true ih = distinct_one (is_false (member x (keep p xs)) (not_T (member x (keep p xs)) (λ n. subst T m (kept_member p x xs n).0))) ih
    go false ih = ih

in_append : (y : Text) (xs ys : List Text) → T (member y (xs ++ ys)) → T (member y xs) ⊎ T (member y ys)
unfolding member some_of
in_append y [] ys m = inr m
in_append y (x ∷ xs) ys m = go (or_cases (same y x) (member y (xs ++ ys)) m) (in_append y xs ys)
  where
    go : T (same y x) ⊎ T (member y (xs ++ ys)) → (T (member y (xs ++ ys)) → T (member y xs) ⊎ T (member y ys)) → T (same y x || member y xs) ⊎ T (member y ys)
    go (inl s) ih = inl (or_left (same y x) (member y xs) s)
    go (inr m) ih = ho (ih m)
      where
        ho : T (member y xs) ⊎ T (member y ys) → T (same y x || member y xs) ⊎ T (member y ys)
        ho (inl m) = inl (or_right (same y x) (member y xs) m)
        ho (inr m) = inr m

append_distinct : {xs ys : List Text} → Distinct xs → Distinct ys → ((y : Text) → T (member y ys) → T (member y xs) → ⊥) → Distinct (xs ++ ys)
append_distinct distinct_none e h = e
append_distinct {ys = ys} (distinct_one {x} {xs} m d) e h =
    distinct_one (is_false (member x (xs ++ ys)) (not_T (member x (xs ++ ys)) (λ n. go (in_append x xs ys n)))) (append_distinct d e (λ y n k. h y n (member_later x y xs k)))
  where
    go : T (member x xs) ⊎ T (member x ys) → ⊥
    go (inl n) = subst T m n
    go (inr n) = h x n (member_first x xs)

pub join_distinct : (xs ys : List Text) → Distinct xs → Distinct ys → Distinct (join xs ys)
unfolding join
join_distinct xs ys d e =
    append_distinct d (keep_distinct (λ y. not (member y xs)) e) (λ y m n. not_both (member y xs) n (kept_member (λ y. not (member y xs)) y ys m).1)

attributes_distinct : (vs : Text → Bool) (ps : List Term) → Distinct (attributes vs ps)
unfolding attributes member some_of
attributes_distinct vs [] = distinct_none
attributes_distinct vs (name t ∷ ps) = go (vs t.text) (attributes_distinct vs ps)
  where
    go : (b : Bool) → Distinct (attributes vs ps) → Distinct (cond b (attributes vs ps) (join (t.text ∷ []) (attributes vs ps)))
    go true d = d
    go false d = join_distinct (t.text ∷ []) (attributes vs ps) (distinct_one {x = t.text} {xs = []} refl distinct_none) d
attributes_distinct vs (string t ∷ ps) = attributes_distinct vs ps
attributes_distinct vs (anything ∷ ps) = attributes_distinct vs ps

pub free_distinct : (vs : Text → Bool) (e : Expression) → Distinct (free vs e)
unfolding free
free_distinct vs (atom r ps) = attributes_distinct vs ps
free_distinct vs (truth ps) = attributes_distinct vs ps
free_distinct vs (falsity ps) = attributes_distinct vs ps
free_distinct vs (compare g p q) = attributes_distinct vs (p ∷ q ∷ [])
free_distinct vs (matching s p) = attributes_distinct vs (p ∷ [])
free_distinct vs (negation e) = free_distinct vs e
free_distinct vs (conjunction a b) = join_distinct (free vs a) (free vs b) (free_distinct vs a) (free_distinct vs b)
free_distinct vs (disjunction a b) = join_distinct (free vs a) (free vs b) (free_distinct vs a) (free_distinct vs b)
free_distinct vs (implication a b) = join_distinct (free vs a) (free vs b) (free_distinct vs a) (free_distinct vs b)
free_distinct vs (equivalence a b) = join_distinct (free vs a) (free vs b) (free_distinct vs a) (free_distinct vs b)
free_distinct vs (exists x e) = keep_distinct (λ y. not (same y x.text)) (free_distinct vs e)
free_distinct vs (for_all x e) = keep_distinct (λ y. not (same y x.text)) (free_distinct vs e)
free_distinct vs (closure_of e) = free_distinct vs e
free_distinct vs (compare_relations g a b) = distinct_none
free_distinct vs (literal t) = distinct_none
free_distinct vs (count_of e) = distinct_none
free_distinct vs (sum_of a b) = distinct_none
free_distinct vs (ratio_of a b) = distinct_none
free_distinct vs (compare_figures g a b) = distinct_none

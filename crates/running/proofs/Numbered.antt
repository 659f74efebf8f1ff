-- The closures of a lowered statement have numbers below 16.
use Prim.Native.Nat.{ℕ, ◌+◌, ◌-◌, ◌<◌, ◌≤◌}
use mathlib.Core.Path.{◌≡◌, refl, sym, subst, ◌∙◌}
use mathlib.Core.Bool.{Bool, true, false, cond}
use mathlib.Core.List.{List, ◌++◌}
use native.Mathlib.Omega.{arith}
use borrow.Author.Tests.{ltb-true, ltb-false}
use lib.Dec.{ltb}
use lib.ListN.{length, get_or, length-append}
use Rattle.definition.specs.Text.{Text, some_of, all_of}
use Rattle.definition.specs.Names.{closures}
use Rattle.definition.specs.Syntax.{Expression, atom, truth, falsity, compare, matching, negation, conjunction, disjunction, implication, equivalence, exists, for_all, closure_of, compare_relations, literal, count_of, sum_of, ratio_of, compare_figures}
use Rattle.definition.specs.Accept.{Accepted}
use Rattle.definition.specs.Meaning.{nowhere, choices}
use Rattle.words.specs.Fields.{kind_of, TRUTH, FALSITY, CLOSURE}
use Rattle.words.specs.Raw.{size}
use Rattle.eval.specs.Nodes.{c_of}
use Rattle.meaning.specs.Lowered.{closure_count, Placed, Leaves, Lowered, Sequence, none, leaves, expression}

-- TRUE's kind is no closure's
truth_kind : (b : Bool) (k : ℕ) → k ≡ cond b TRUTH FALSITY → k ≡ CLOSURE → ⊥
truth_kind true k e h = omega arith
truth_kind false k e h = omega arith

module _ (w : Accepted) (β : Text → ℕ) (loops : List Text) (low : List ℕ) where
  -- a closure at a place has a number below 16
  abbrev Few : ℕ → Type 0
  Few k = kind_of (get_or low k 0) ≡ CLOSURE → c_of (get_or low k 0) < 16

  -- and so for m places from n on
  pub record AllFew (n m : ℕ) : Type 0 where
    pub few : (i : ℕ) → i < m → kind_of (get_or low (n + i) 0) ≡ CLOSURE → c_of (get_or low (n + i) 0) < 16

  of_leaves : (n m : ℕ) → Leaves w β loops low n m → AllFew n m
  of_leaves n m h = record { few = λ i l e. absurd (h i l e) }

  then : {n m k : ℕ} → AllFew n m → AllFew (n + m) k → AllFew n (m + k)
  then {n} {m} {k} h g = record { few = λ i l. go i l (ltb i m) refl }
    where
      go : (i : ℕ) → i < m + k → (b : Bool) → ltb i m ≡ b → Few (n + i)
      go i l true e = h.few i (ltb-true i m e)
      go i l false e =
          let b : m ≤ i = ltb-false i m e in
          let q : n + m + (i - m) ≡ n + i = omega arith in
          subst Few q (g.few (i - m) (omega arith))

  one : {n : ℕ} → Few n → AllFew n 1
  one {n} f = record { few = λ i l. let q : n ≡ n + i = omega arith in subst Few q f }

  as_many : {n m k : ℕ} → m ≡ k → AllFew n m → AllFew n k
  as_many {n} e h = subst (AllFew n) e h

  -- an operator's own word after those of two parts
  two_parts : {n a b K : ℕ} → AllFew n a → AllFew (n + a) b → kind_of (get_or low (n + a + b) 0) ≡ K → (K ≡ CLOSURE → ⊥) → AllFew n (a + b + 1)
  two_parts {n} {a} {b} h g k d =
      let q : n + a + b ≡ n + (a + b) = omega arith in
      then (then h g) (one (subst Few q (λ e. absurd (d (sym k ∙ e)))))

  one_part : {n a K : ℕ} → AllFew n a → kind_of (get_or low (n + a) 0) ≡ K → (K ≡ CLOSURE → ⊥) → AllFew n (a + 1)
  one_part h k d = then h (one (λ e. absurd (d (sym k ∙ e))))

  bound_part : {n a K : ℕ} → Leaves w β loops low n 1 → AllFew (n + 1) a → kind_of (get_or low (n + 1 + a) 0) ≡ K → (K ≡ CLOSURE → ⊥) → AllFew n (a + 2)
  bound_part {n} {a} l h k d = as_many (omega arith) (two_parts (of_leaves n 1 l) h k d)

  pub few_closures : (e : Expression) (n c : ℕ) → Lowered w β loops low e n c → AllFew n (size e)
  unfolding Lowered size
  few_closures (atom r ps) n c l = as_many (omega arith) (one_part (of_leaves n (length ps + 1) l.0) l.1.kind (λ h. omega arith))
  few_closures (truth ps) n c l = then (of_leaves n (length ps) l.0) (one (λ e. absurd (truth_kind (all_of (λ p. some_of (λ a. true) (choices w nowhere p)) ps) _ l.1.kind e)))
  few_closures (falsity ps) n c l = one_part (of_leaves n (length ps) l.0) l.1 (λ h. omega arith)
  few_closures (compare g p q) n c l = one_part (of_leaves n 2 l.0) l.1.kind (λ h. omega arith)
  few_closures (matching s p) n c l =
      one_part (one_part (one_part (of_leaves n 1 l.0) l.1.0.kind (λ h. omega arith)) l.1.1.0.kind (λ h. omega arith)) l.1.1.1.kind (λ h. omega arith)
  few_closures (negation e) n c l = one_part (few_closures e n c l.0) l.1.kind (λ h. omega arith)
  few_closures (conjunction a b) n c l = two_parts (few_closures a n c l.0) (few_closures b (n + size a) (c + closure_count a) l.1.0) l.1.1.kind (λ h. omega arith)
  few_closures (disjunction a b) n c l = two_parts (few_closures a n c l.0) (few_closures b (n + size a) (c + closure_count a) l.1.0) l.1.1.kind (λ h. omega arith)
  few_closures (implication a b) n c l = two_parts (few_closures a n c l.0) (few_closures b (n + size a) (c + closure_count a) l.1.0) l.1.1.kind (λ h. omega arith)
  few_closures (equivalence a b) n c l = two_parts (few_closures a n c l.0) (few_closures b (n + size a) (c + closure_count a) l.1.0) l.1.1.kind (λ h. omega arith)
  few_closures (exists x e) n c l = bound_part l.0 (few_closures e (n + 1) c l.1.0) l.1.1.kind (λ h. omega arith)
  few_closures (for_all x e) n c l = bound_part l.0 (few_closures e (n + 1) c l.1.0) l.1.1.kind (λ h. omega arith)
  few_closures (closure_of e) n c l = then (few_closures e n c l.0) (one (λ h. omega (arith, l.1.number, l.1.few)))
  few_closures (compare_relations g a b) n c l = two_parts (few_closures a n c l.0) (few_closures b (n + size a) (c + closure_count a) l.1.0) l.1.1.two.kind (λ h. omega arith)
  few_closures (literal t) n c l = one (λ e. absurd (let k = l.kind in omega arith))
  few_closures (count_of e) n c l = one_part (few_closures e n c l.0) l.1.one.kind (λ h. omega arith)
  few_closures (sum_of a b) n c l = two_parts (few_closures a n c l.0) (few_closures b (n + size a) (c + closure_count a) l.1.0) l.1.1.kind (λ h. omega arith)
  few_closures (ratio_of a b) n c l = two_parts (few_closures a n c l.0) (few_closures b (n + size a) (c + closure_count a) l.1.0) l.1.1.kind (λ h. omega arith)
  few_closures (compare_figures g a b) n c l = two_parts (few_closures a n c l.0) (few_closures b (n + size a) (c + closure_count a) l.1.0) l.1.1.0.two.kind (λ h. omega arith)

  -- a statement's
  pub few_sequence : {n m c : ℕ} {es : List Placed} → Sequence w β loops low n m c es → AllFew n m
  few_sequence none = record { few = λ i l e. absurd (omega arith) }
  few_sequence {n} (leaves k l r) = then (of_leaves n k l) (few_sequence r)
  few_sequence {n} {c = c} (expression e l r) = then (few_closures e n c l) (few_sequence r)

  both : (a b : Expression) (c : ℕ) → c + closure_count a + closure_count b ≤ 16 → c + length (closures a ++ closures b) ≤ 16
  both a b c h = omega (arith, length-append (closures a) (closures b))

  -- so there are at most 16 of them
  pub count_few : (e : Expression) (n c : ℕ) → Lowered w β loops low e n c → c ≤ 16 → c + closure_count e ≤ 16
  unfolding Lowered closures
  count_few (atom r ps) n c l h = omega arith
  count_few (truth ps) n c l h = omega arith
  count_few (falsity ps) n c l h = omega arith
  count_few (compare g p q) n c l h = omega arith
  count_few (matching s p) n c l h = omega arith
  count_few (negation e) n c l h = count_few e n c l.0 h
  count_few (conjunction a b) n c l h = both a b c (count_few b (n + size a) (c + closure_count a) l.1.0 (count_few a n c l.0 h))
  count_few (disjunction a b) n c l h = both a b c (count_few b (n + size a) (c + closure_count a) l.1.0 (count_few a n c l.0 h))
  count_few (implication a b) n c l h = both a b c (count_few b (n + size a) (c + closure_count a) l.1.0 (count_few a n c l.0 h))
  count_few (equivalence a b) n c l h = both a b c (count_few b (n + size a) (c + closure_count a) l.1.0 (count_few a n c l.0 h))
  count_few (exists x e) n c l h = count_few e (n + 1) c l.1.0 h
  count_few (for_all x e) n c l h = count_few e (n + 1) c l.1.0 h
  count_few (closure_of e) n c l h = omega (arith, l.1.few)
  count_few (compare_relations g a b) n c l h = both a b c (count_few b (n + size a) (c + closure_count a) l.1.0 (count_few a n c l.0 h))
  count_few (literal t) n c l h = omega arith
  count_few (count_of e) n c l h = count_few e n c l.0 h
  count_few (sum_of a b) n c l h = both a b c (count_few b (n + size a) (c + closure_count a) l.1.0 (count_few a n c l.0 h))
  count_few (ratio_of a b) n c l h = both a b c (count_few b (n + size a) (c + closure_count a) l.1.0 (count_few a n c l.0 h))
  count_few (compare_figures g a b) n c l h = both a b c (count_few b (n + size a) (c + closure_count a) l.1.0 (count_few a n c l.0 h))

-- How many words each tree has.
use Prim.Native.Nat.{ℕ, suc, ◌+◌, ◌<◌}
use mathlib.Core.Path.{◌≡◌, refl, ap}
use mathlib.Core.List.{List, [], ◌∷◌}
use native.Mathlib.Omega.{arith}
use lib.ListN.{length, length-append}
use Rattle.definition.specs.Syntax.{Term, Expression, atom, truth, falsity, compare, matching, negation, conjunction, disjunction, implication, equivalence, exists, for_all, closure_of, compare_relations, literal, count_of, sum_of, ratio_of, compare_figures}
use Rattle.definition.specs.Syntax.{Item, rows, word, line_end, amount, Program, end, assign, print, test, while, for, block}
use Rattle.words.specs.Raw.{leaves, size, flat, size_item, flat_item, size_items, flat_items, size_program, flat_program}

pub length_leaves : (k : ℕ) (ps : List Term) → length (leaves k ps) ≡ length ps
unfolding leaves
length_leaves k [] = refl
length_leaves k (p ∷ ps) = ap suc (length_leaves k ps)

pub length_flat : (e : Expression) (n : ℕ) → length (flat e n) ≡ size e
unfolding flat size
length_flat (atom r ps) n = simp (length-append, length_leaves) (omega arith)
length_flat (truth ps) n = simp (length-append, length_leaves)
length_flat (falsity ps) n = simp (length-append, length_leaves)
length_flat (compare g p q) n = refl
length_flat (matching s p) n = refl
length_flat (negation e) n = simp (length-append, length_flat e n)
length_flat (conjunction a b) n = simp (length-append, length_flat a n, length_flat b (n + size a)) (omega arith)
length_flat (disjunction a b) n = simp (length-append, length_flat a n, length_flat b (n + size a)) (omega arith)
length_flat (implication a b) n = simp (length-append, length_flat a n, length_flat b (n + size a)) (omega arith)
length_flat (equivalence a b) n = simp (length-append, length_flat a n, length_flat b (n + size a)) (omega arith)
length_flat (exists x e) n = simp (length-append, length_flat e (n + 1)) (omega arith)
length_flat (for_all x e) n = simp (length-append, length_flat e (n + 1)) (omega arith)
length_flat (closure_of e) n = simp (length-append, length_flat e n)
length_flat (compare_relations g a b) n = simp (length-append, length_flat a n, length_flat b (n + size a)) (omega arith)
length_flat (literal t) n = refl
length_flat (count_of e) n = simp (length-append, length_flat e n)
length_flat (sum_of a b) n = simp (length-append, length_flat a n, length_flat b (n + size a)) (omega arith)
length_flat (ratio_of a b) n = simp (length-append, length_flat a n, length_flat b (n + size a)) (omega arith)
length_flat (compare_figures g a b) n = simp (length-append, length_flat a n, length_flat b (n + size a)) (omega arith)

pub size_pos : (e : Expression) → 0 < size e
unfolding size
size_pos (atom r ps) = omega arith
size_pos (truth ps) = omega arith
size_pos (falsity ps) = omega arith
size_pos (compare g p q) = omega arith
size_pos (matching s p) = omega arith
size_pos (negation e) = omega arith
size_pos (conjunction a b) = omega arith
size_pos (disjunction a b) = omega arith
size_pos (implication a b) = omega arith
size_pos (equivalence a b) = omega arith
size_pos (exists x e) = omega arith
size_pos (for_all x e) = omega arith
size_pos (closure_of e) = omega arith
size_pos (compare_relations g a b) = omega arith
size_pos (literal t) = omega arith
size_pos (count_of e) = omega arith
size_pos (sum_of a b) = omega arith
size_pos (ratio_of a b) = omega arith
size_pos (compare_figures g a b) = omega arith

pub length_item : (i : Item) (n : ℕ) → length (flat_item i n) ≡ size_item i
unfolding flat_item size_item leaves
length_item (rows ps e) n = simp (length-append, length_leaves, length_flat e (n + length ps))
length_item (word p) n = refl
length_item line_end n = refl
length_item (amount e) n = simp (length-append, length_flat e n)

pub length_items : (is : List Item) (n : ℕ) → length (flat_items is n) ≡ size_items is
unfolding flat_items size_items
length_items [] n = refl
length_items (i ∷ is) n = simp (length-append, length_item i n, length_items is (n + size_item i))

pub length_program : (p : Program) (n : ℕ) → length (flat_program p n) ≡ size_program p
unfolding flat_program size_program
length_program end n = refl
length_program (assign i r ps e k) n =
    simp (length-append, length_leaves, length_flat e (n + 1 + length ps), length_program k (n + 1 + length ps + size e + 1)) (omega arith)
length_program (print i is k) n = simp (length-append, length_items is n, length_program k (n + size_items is + 1)) (omega arith)
length_program (test i e a b k) n =
    let m = n + size e + 1 in
    let l = m + size_program a + 1 in
    simp (length-append, length_flat e n, length_program a m, length_program b l, length_program k (l + size_program b)) (omega arith)
length_program (while i e a k) n =
    let m = n + size e + 1 in
    simp (length-append, length_flat e n, length_program a m, length_program k (m + size_program a + 1)) (omega arith)
length_program (for i v e a k) n =
    let m = n + 1 + size e + 1 in
    simp (length-append, length_flat e (n + 1), length_program a m, length_program k (m + size_program a + 1)) (omega arith)
length_program (block a k) n = simp (length-append, length_program a n, length_program k (n + size_program a))

-- The node of an expression's own word, by the fields of that word.
use Prim.Native.Nat.{ℕ, ◌+◌, ◌-◌, ◌%◌, ◌<◌}
use mathlib.Core.Path.{◌≡◌, refl, sym, ap, ap₂, ◌∙◌}
use mathlib.Core.Bool.{Bool, true, false, cond}
use mathlib.Core.List.{List}
use native.Mathlib.Omega.{arith}
use borrow.Author.Tests.{lt-ltb}
use lib.Dec.{ltb}
use lib.ListN.{length, get_or}
use Rattle.definition.specs.Text.{Text, some_of, all_of}
use Rattle.definition.specs.Token.{Token, Sign, equal, unequal, less, at_most, greater, at_least, value}
use Rattle.definition.specs.Syntax.{Term, Expression, atom, truth, falsity, compare, matching, negation, conjunction, disjunction, implication, equivalence, exists, for_all, closure_of, compare_relations, literal, count_of, sum_of, ratio_of, compare_figures}
use Rattle.definition.specs.Accept.{Accepted}
use Rattle.definition.specs.Meaning.{choices, nowhere}
use Rattle.definition.proofs.RelationLaws.{place_of}
use Rattle.words.specs.Fields.{kind_of, p_of, q_of, TRUTH, FALSITY}
use Rattle.words.specs.Raw.{size, sign_number}
use Rattle.words.proofs.Sizes.{size_pos}
use Rattle.eval.specs.Nodes.{Node, operand, operands, operands_of, sign, node, atom_of, node_at, child_at, a_of, b_of, c_of, d_of, n_of, half_of}
use Rattle.eval.specs.Nodes as Nodes
use Rattle.eval.proofs.Trees.{node_step, child_below}
use Rattle.meaning.specs.Lowered.{root, closure_count, One, Two, Quantifier, Half, Lowered}

-- an expression's own word is its last
pub root_last : (e : Expression) (n : ℕ) → root e n < n + size e
root_last e n = omega (arith, size_pos e)

sign_same : (g : Sign) → sign (sign_number g) ≡ g
sign_same equal = refl
sign_same unequal = refl
sign_same less = refl
sign_same at_most = refl
sign_same greater = refl
sign_same at_least = refl

-- which node follows from a word's kind and its children
abbrev By : ℕ → (ℕ → (ℕ → Node) → Node) → Type 0
By K F = (x : ℕ) (s : ℕ → Node) → node K x s ≡ F x s

module _ (w : Accepted) (β : Text → ℕ) (loops : List Text) (low : List ℕ) where
  abbrev at : ℕ → ℕ
  at k = get_or low k 0

  abbrev own : Expression → ℕ → Node
  own e n = node_at low (root e n)

  -- the node of an expression whose words begin at n, with c closures before
  unfoldable pub Shape : Expression → ℕ → ℕ → Node
  Shape (atom r ps) n c = Nodes.atom (place_of r.text w.relations) (operands (length ps) (operands_of (at (n + (length ps + 1)))))
  Shape (truth ps) n c = cond (all_of (λ p. some_of (λ a. true) (choices w nowhere p)) ps) Nodes.yes Nodes.no
  Shape (falsity ps) n c = Nodes.no
  Shape (compare g p q) n c = Nodes.order g (operand (a_of (at (n + 2)))) (operand (b_of (at (n + 2))))
  Shape (matching s p) n c =
      Nodes.disjunction (Nodes.within 0 (half_of (at (n + 1))) (operand (n_of (at (n + 1))))) (Nodes.within 32 (half_of (at (n + 2))) (operand (n_of (at (n + 2)))))
  Shape (negation e) n c = Nodes.negation (own e n)
  Shape (conjunction a b) n c = Nodes.conjunction (own a n) (own b (n + size a))
  Shape (disjunction a b) n c = Nodes.disjunction (own a n) (own b (n + size a))
  Shape (implication a b) n c = Nodes.implication (own a n) (own b (n + size a))
  Shape (equivalence a b) n c = Nodes.equivalence (own a n) (own b (n + size a))
  Shape (exists x e) n c = Nodes.exists (p_of (at (n + 1 + size e)) % 8) (own e (n + 1))
  Shape (for_all x e) n c = Nodes.for_all (p_of (at (n + 1 + size e)) % 8) (own e (n + 1))
  Shape (closure_of e) n c = Nodes.closure_of (own e n) (a_of (at (n + size e)) % 8) (b_of (at (n + size e)) % 8) (c + closure_count e)
  Shape (compare_relations g a b) n c = Nodes.comparison g (d_of (at (n + size a + size b))) (own a n) (own b (n + size a))
  Shape (literal t) n c = Nodes.literal (value t.text)
  Shape (count_of e) n c = Nodes.count (d_of (at (n + size e))) (own e n)
  Shape (sum_of a b) n c = Nodes.sum (own a n) (own b (n + size a))
  Shape (ratio_of a b) n c = Nodes.ratio (own a n) (own b (n + size a))
  Shape (compare_figures g a b) n c = Nodes.figures g (own a n) (own b (n + size a))

  by_kind : (k K m : ℕ) → k ≡ m → kind_of (at m) ≡ K → node_at low k ≡ node K (at m) (child_at low m)
  by_kind k K m e f = ap (node_at low) e ∙ node_step low m ∙ ap (λ (x : ℕ). node x (at m) (child_at low m)) f

  child : (k p a : ℕ) → p ≡ a → a < k → child_at low k p ≡ node_at low a
  child k p a e h = ap (child_at low k) e ∙ sym (child_below low k a h)

  decided : (k m : ℕ) (b : Bool) → k ≡ m → kind_of (at m) ≡ cond b TRUTH FALSITY → node_at low k ≡ cond b Nodes.yes Nodes.no
  unfolding node
  decided k m true e f = by_kind k TRUTH m e f
  decided k m false e f = by_kind k FALSITY m e f

  half_node : (k b : ℕ) {s : Token} {p : Term} → Half w β loops low k b s p → node_at low k ≡ Nodes.within b (half_of (at k)) (operand (n_of (at k)))
  unfolding node
  half_node k b l = by_kind k 23 k refl l.kind ∙ ap (λ (i : ℕ). Nodes.within i (half_of (at k)) (operand (n_of (at k)))) l.first

  -- an operator over one expression, and over two
  over_one : (e : Expression) (n K : ℕ) (F : ℕ → Node → Node) → By K (λ x s. F x (s (p_of x))) → One w β loops low (n + size e) K (root e n)
      → node_at low (n + (size e + 1) - 1) ≡ F (at (n + size e)) (own e n)
  over_one e n K F f l =
      let k = n + size e in
      by_kind (n + (size e + 1) - 1) K k (omega arith) l.kind ∙ f (at k) (child_at low k) ∙ ap (F (at k)) (child k (p_of (at k)) (root e n) l.child (root_last e n))

  over_two : (a b : Expression) (n K : ℕ) (F : ℕ → Node → Node → Node) → By K (λ x s. F x (s (p_of x)) (s (q_of x))) → Two w β loops low (n + size a + size b) K (root a n) (root b (n + size a))
      → node_at low (n + (size a + size b + 1) - 1) ≡ F (at (n + size a + size b)) (own a n) (own b (n + size a))
  over_two a b n K F f l =
      let k = n + size a + size b in
      by_kind (n + (size a + size b + 1) - 1) K k (omega arith) l.kind ∙ f (at k) (child_at low k)
      ∙ ap₂ (F (at k)) (child k (p_of (at k)) (root a n) l.first (omega (arith, root_last a n))) (child k (q_of (at k)) (root b (n + size a)) l.second (root_last b (n + size a)))

  quantifier : (x : Token) (e : Expression) (n K : ℕ) (F : ℕ → Node → Node) → By K (λ y s. F (p_of y % 8) (s (q_of y))) → Quantifier w β loops low (n + 1 + size e) K (root e (n + 1)) x
      → node_at low (n + (size e + 2) - 1) ≡ F (p_of (at (n + 1 + size e)) % 8) (own e (n + 1))
  quantifier x e n K F f l =
      let k = n + 1 + size e in
      by_kind (n + (size e + 2) - 1) K k (omega arith) l.kind ∙ f (at k) (child_at low k) ∙ ap (F (p_of (at k) % 8)) (child k (q_of (at k)) (root e (n + 1)) l.child (root_last e (n + 1)))

  pub decoded : (e : Expression) (n c : ℕ) → Lowered w β loops low e n c → node_at low (root e n) ≡ Shape e n c
  unfolding Lowered Shape size node atom_of
  decoded (atom r ps) n c l =
      let k = n + (length ps + 1) in
      let i = place_of r.text w.relations in
      let a = l.1 in
      by_kind (n + (length ps + 2) - 1) 10 k (omega arith) a.kind
      ∙ ap₂ (λ (j m : ℕ). cond (ltb m 5) (Nodes.atom j (operands m (operands_of (at k)))) Nodes.no) a.number a.count
      ∙ ap (λ (b : Bool). cond b (Nodes.atom i (operands (length ps) (operands_of (at k)))) Nodes.no) (lt-ltb (length ps) 5 a.short)
  decoded (truth ps) n c l = decided (n + (length ps + 1) - 1) (n + length ps) (all_of (λ p. some_of (λ a. true) (choices w nowhere p)) ps) (omega arith) l.1.kind
  decoded (falsity ps) n c l = decided (n + (length ps + 1) - 1) (n + length ps) false (omega arith) l.1
  decoded (compare g p q) n c l =
      by_kind (n + 3 - 1) 13 (n + 2) (omega arith) l.1.kind ∙ ap (λ (x : Sign). Nodes.order x (operand (a_of (at (n + 2)))) (operand (b_of (at (n + 2))))) (ap sign l.1.sign ∙ sign_same g)
  decoded (matching s p) n c l =
      let a = l.1.0 in
      let b = l.1.1.0 in
      let d = l.1.1.1 in
      by_kind (n + 4 - 1) 16 (n + 3) (omega arith) d.kind
      ∙ ap₂ Nodes.disjunction
      (child (n + 3) (p_of (at (n + 3))) (n + 1) d.first (omega arith) ∙ half_node (n + 1) 0 a)
      (child (n + 3) (q_of (at (n + 3))) (n + 2) d.second (omega arith) ∙ half_node (n + 2) 32 b)
  decoded (negation e) n c l = over_one e n 14 (λ x a. Nodes.negation a) (λ x s. refl) l.1
  decoded (conjunction a b) n c l = over_two a b n 15 (λ x p q. Nodes.conjunction p q) (λ x s. refl) l.1.1
  decoded (disjunction a b) n c l = over_two a b n 16 (λ x p q. Nodes.disjunction p q) (λ x s. refl) l.1.1
  decoded (implication a b) n c l = over_two a b n 17 (λ x p q. Nodes.implication p q) (λ x s. refl) l.1.1
  decoded (equivalence a b) n c l = over_two a b n 18 (λ x p q. Nodes.equivalence p q) (λ x s. refl) l.1.1
  decoded (exists x e) n c l = quantifier x e n 19 Nodes.exists (λ y s. refl) l.1.1
  decoded (for_all x e) n c l = quantifier x e n 20 Nodes.for_all (λ y s. refl) l.1.1
  decoded (closure_of e) n c l =
      let k = n + size e in
      over_one e n 21 (λ x a. Nodes.closure_of a (a_of x % 8) (b_of x % 8) (c_of x)) (λ x s. refl) l.1.one
      ∙ ap (Nodes.closure_of (own e n) (a_of (at k) % 8) (b_of (at k) % 8)) l.1.number
  decoded (compare_relations g a b) n c l =
      over_two a b n 22 (λ x p q. Nodes.comparison (sign (c_of x)) (d_of x) p q) (λ x s. refl) l.1.1.two
      ∙ ap (λ (x : Sign). Nodes.comparison x (d_of (at (n + size a + size b))) (own a n) (own b (n + size a))) (ap sign l.1.1.sign ∙ sign_same g)
  decoded (literal t) n c l = by_kind (n + 1 - 1) 25 n (omega arith) l.kind ∙ ap Nodes.literal l.number
  decoded (count_of e) n c l = over_one e n 24 (λ x a. Nodes.count (d_of x) a) (λ x s. refl) l.1.one
  decoded (sum_of a b) n c l = over_two a b n 26 (λ x p q. Nodes.sum p q) (λ x s. refl) l.1.1
  decoded (ratio_of a b) n c l = over_two a b n 27 (λ x p q. Nodes.ratio p q) (λ x s. refl) l.1.1
  decoded (compare_figures g a b) n c l =
      over_two a b n 28 (λ x p q. Nodes.figures (sign (c_of x)) p q) (λ x s. refl) l.1.1.0.two
      ∙ ap (λ (x : Sign). Nodes.figures x (own a n) (own b (n + size a))) (ap sign l.1.1.0.sign ∙ sign_same g)

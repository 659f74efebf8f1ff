-- What holds of the kinds that terms, expressions and items are written with holds of the kind of each of their words.
use Prim.Native.Nat.{ℕ, ◌+◌, ◌<◌, ◌≤◌}
use mathlib.Core.Path.{◌≡◌, refl, sym, subst}
use mathlib.Core.Bool.{Bool, true, false}
use mathlib.Core.List.{List, [], ◌∷◌, ◌++◌}
use native.Mathlib.Omega.{arith}
use borrow.Author.Tests.{eqb-true, eqb-false}
use lib.Dec.{eqb}
use lib.ListN.{length, get_or}
use Rattle.definition.specs.Syntax.{Term, name, string, anything, Expression, atom, truth, falsity, compare, matching, negation, conjunction, disjunction, implication, equivalence, exists, for_all, closure_of, compare_relations, literal, count_of, sum_of, ratio_of, compare_figures}
use Rattle.definition.specs.Syntax as Syntax
use Rattle.definition.specs.Syntax.{Item, rows, line_end, amount}
use Rattle.words.specs.Fields.{word, kind_of, RELATION_NAME, ATTRIBUTE, TERM, WORD, ANYTHING, ATOM, TRUTH, FALSITY, ORDER, NEGATION, CONJUNCTION, DISJUNCTION, IMPLICATION, EQUIVALENCE, EXISTS, FOR_ALL, CLOSURE, COMPARISON, MATCH, COUNT, LITERAL, SUM, RATIO, FIGURES, AMOUNT, ROWS, SAY, LINE_END, STRING}
use Rattle.words.specs.Raw.{number, sign_number, leaves, size, flat, size_item, flat_item, flat_items}
use Rattle.words.specs.Standing.{Has}
use Rattle.words.proofs.FieldLaws.{kind_word}

module _ (P : ℕ → Type 0) where
  unfoldable pub Each : List ℕ → Type 0
  Each [] = Unit {0}
  Each (w ∷ ws) = P (kind_of w) × Each ws

  pub each_none : Each []
  unfolding Each
  each_none = tt

  pub each_cons : (k p q r : ℕ) (ws : List ℕ) → k < 256 → P k → Each ws → Each (word k p q r ∷ ws)
  unfolding Each
  each_cons k p q r ws h e o = (subst P (sym (kind_word k p q r h)) e, o)

  pub each_append : (xs ys : List ℕ) → Each xs → Each ys → Each (xs ++ ys)
  unfolding Each
  each_append [] ys h k = k
  each_append (x ∷ xs) ys h k = (h.0, each_append xs ys h.1 k)

  each_last : (xs : List ℕ) (k p q r : ℕ) → k < 256 → P k → Each xs → Each (xs ++ (word k p q r ∷ []))
  each_last xs k p q r h e o = each_append xs (word k p q r ∷ []) o (each_cons k p q r [] h e each_none)

  each_two : (xs ys : List ℕ) (k p q r : ℕ) → k < 256 → P k → Each xs → Each ys → Each (xs ++ (ys ++ (word k p q r ∷ [])))
  each_two xs ys k p q r h e o o' = each_append xs _ o (each_last ys k p q r h e o')

  -- the word at each of their places
  pub each_at : (words : List ℕ) (ws : List ℕ) (n : ℕ) → Has words n ws → Each ws → (i : ℕ) → n ≤ i → i < n + length ws → P (kind_of (get_or words i 0))
  unfolding Has Each
  each_at words [] n x q i l h = absurd (omega arith)
  each_at words (w ∷ ws) n x q i l h = go (eqb n i) refl (λ z. each_at words ws (n + 1) x.1 q.1 i z (omega arith))
    where
      go : (t : Bool) → eqb n i ≡ t → (n + 1 ≤ i → P (kind_of (get_or words i 0))) → P (kind_of (get_or words i 0))
      go true e more = subst (λ (j : ℕ). P (kind_of (get_or words j 0))) (eqb-true n i e) (subst (λ (v : ℕ). P (kind_of v)) (sym x.0) q.0)
      go false e more = let z : n ≡ i → ⊥ = eqb-false n i e in more (omega (arith, l, z))

  -- names and strings, by what their place takes, and the kinds of "_" and of expressions
  pub record Inner : Type 0 where
    pub names : (k : ℕ) → 0 < k → k < 5 → P k × P (STRING + k)
    pub nodes : (k : ℕ) → 9 ≤ k → k < 29 → P k

  module _ (I : Inner) where
    pub each_leaves : (k : ℕ) (ps : List Term) → 0 < k → k < 5 → Each (leaves k ps)
    unfolding leaves
    each_leaves k [] l h = each_none
    each_leaves k (name t ∷ ps) l h = each_cons k (number t) 0 0 (leaves k ps) (omega arith) (I.names k l h).0 (each_leaves k ps l h)
    each_leaves k (string t ∷ ps) l h = each_cons (STRING + k) (number t) 0 0 (leaves k ps) (omega arith) (I.names k l h).1 (each_leaves k ps l h)
    each_leaves k (anything ∷ ps) l h = each_cons ANYTHING 0 0 0 (leaves k ps) (omega arith) (I.nodes ANYTHING (omega arith) (omega arith)) (each_leaves k ps l h)

    each_terms : (ps : List Term) → Each (leaves TERM ps)
    each_terms ps = each_leaves TERM ps (omega arith) (omega arith)

    -- a word after one or two operands
    over_one : (xs : List ℕ) (k p q r : ℕ) → 9 ≤ k → k < 29 → Each xs → Each (xs ++ (word k p q r ∷ []))
    over_one xs k p q r l h o = each_last xs k p q r (omega arith) (I.nodes k l h) o

    over_two : (xs ys : List ℕ) (k p q r : ℕ) → 9 ≤ k → k < 29 → Each xs → Each ys → Each (xs ++ (ys ++ (word k p q r ∷ [])))
    over_two xs ys k p q r l h o o' = each_two xs ys k p q r (omega arith) (I.nodes k l h) o o'

    named : (k p q : ℕ) (ws : List ℕ) → 0 < k → k < 5 → Each ws → Each (word k p q 0 ∷ ws)
    named k p q ws l h o = each_cons k p q 0 ws (omega arith) (I.names k l h).0 o

    pub each_expression : (e : Expression) (n : ℕ) → Each (flat e n)
    unfolding flat
    each_expression (atom r ps) n = named RELATION_NAME _ _ _ (omega arith) (omega arith) (over_one (leaves TERM ps) ATOM _ _ 0 (omega arith) (omega arith) (each_terms ps))
    each_expression (truth ps) n = over_one (leaves TERM ps) TRUTH _ _ 0 (omega arith) (omega arith) (each_terms ps)
    each_expression (falsity ps) n = over_one (leaves TERM ps) FALSITY _ _ 0 (omega arith) (omega arith) (each_terms ps)
    each_expression (compare g p q) n = unfold leaves in over_one (leaves TERM (p ∷ q ∷ [])) ORDER _ _ 0 (omega arith) (omega arith) (each_terms (p ∷ q ∷ []))
    each_expression (matching s p) n =
        unfold leaves in
        over_one (_ ∷ _ ∷ _ ∷ []) DISJUNCTION _ _ 0 (omega arith) (omega arith)
        (over_one (_ ∷ _ ∷ []) MATCH _ 32 n (omega arith) (omega arith)
        (over_one (leaves TERM (p ∷ [])) MATCH _ 0 n (omega arith) (omega arith) (each_terms (p ∷ []))))
    each_expression (negation e) n = over_one (flat e n) NEGATION _ 0 0 (omega arith) (omega arith) (each_expression e n)
    each_expression (conjunction a b) n = over_two _ _ CONJUNCTION _ _ 0 (omega arith) (omega arith) (each_expression a n) (each_expression b (n + size a))
    each_expression (disjunction a b) n = over_two _ _ DISJUNCTION _ _ 0 (omega arith) (omega arith) (each_expression a n) (each_expression b (n + size a))
    each_expression (implication a b) n = over_two _ _ IMPLICATION _ _ 0 (omega arith) (omega arith) (each_expression a n) (each_expression b (n + size a))
    each_expression (equivalence a b) n = over_two _ _ EQUIVALENCE _ _ 0 (omega arith) (omega arith) (each_expression a n) (each_expression b (n + size a))
    each_expression (exists x e) n = named ATTRIBUTE _ 0 _ (omega arith) (omega arith) (over_one (flat e (n + 1)) EXISTS _ _ 0 (omega arith) (omega arith) (each_expression e (n + 1)))
    each_expression (for_all x e) n = named ATTRIBUTE _ 0 _ (omega arith) (omega arith) (over_one (flat e (n + 1)) FOR_ALL _ _ 0 (omega arith) (omega arith) (each_expression e (n + 1)))
    each_expression (closure_of e) n = over_one (flat e n) CLOSURE _ 0 0 (omega arith) (omega arith) (each_expression e n)
    each_expression (compare_relations g a b) n = over_two _ _ COMPARISON _ _ (sign_number g) (omega arith) (omega arith) (each_expression a n) (each_expression b (n + size a))
    each_expression (literal t) n = over_one [] LITERAL _ 0 0 (omega arith) (omega arith) each_none
    each_expression (count_of e) n = over_one (flat e n) COUNT _ 0 0 (omega arith) (omega arith) (each_expression e n)
    each_expression (sum_of a b) n = over_two _ _ SUM _ _ 0 (omega arith) (omega arith) (each_expression a n) (each_expression b (n + size a))
    each_expression (ratio_of a b) n = over_two _ _ RATIO _ _ 0 (omega arith) (omega arith) (each_expression a n) (each_expression b (n + size a))
    each_expression (compare_figures g a b) n = over_two _ _ FIGURES _ _ (sign_number g) (omega arith) (omega arith) (each_expression a n) (each_expression b (n + size a))

    -- items, where it holds of their own kinds too
    module _ (items : (k : ℕ) → 29 ≤ k → k < 33 → P k) where
      each_item : (i : Item) (n : ℕ) → Each (flat_item i n)
      unfolding flat_item
      each_item (rows ps e) n =
          each_two (leaves WORD ps) _ ROWS _ _ 0 (omega arith) (items ROWS (omega arith) (omega arith)) (each_leaves WORD ps (omega arith) (omega arith)) (each_expression e (n + length ps))
      each_item (Syntax.word p) n = unfold leaves in each_last (leaves WORD (p ∷ [])) SAY n 0 0 (omega arith) (items SAY (omega arith) (omega arith)) (each_leaves WORD (p ∷ []) (omega arith) (omega arith))
      each_item line_end n = each_cons LINE_END 0 0 0 [] (omega arith) (items LINE_END (omega arith) (omega arith)) each_none
      each_item (amount e) n = each_last (flat e n) AMOUNT n 0 0 (omega arith) (items AMOUNT (omega arith) (omega arith)) (each_expression e n)

      pub each_items : (is : List Item) (n : ℕ) → Each (flat_items is n)
      unfolding flat_items
      each_items [] n = each_none
      each_items (i ∷ is) n = each_append (flat_item i n) _ (each_item i n) (each_items is (n + size_item i))

-- The names of a program stand in its words in the order of its tokens: the uses that its words show are the program's.
use Prim.Native.Nat.{ℕ, ◌+◌, ◌-◌, ◌<◌, ◌≤◌}
use mathlib.Core.Path.{◌≡◌, refl, subst}
use mathlib.Core.List.{List, [], ◌∷◌, ◌++◌, append-nil}
use native.Mathlib.Omega.{arith}
use lib.ListN.{length}
use Rattle.definition.specs.Text.{gather}
use Rattle.definition.specs.Token.{Token}
use Rattle.definition.specs.Syntax.{Term, name, string, anything, Expression, atom, truth, falsity, compare, matching, negation, conjunction, disjunction, implication, equivalence, exists, for_all, closure_of, compare_relations, literal, count_of, sum_of, ratio_of, compare_figures}
use Rattle.definition.specs.Syntax as Syntax
use Rattle.definition.specs.Syntax.{Item, rows, line_end, amount, Program, end, assign, print, test, while, for, block}
use Rattle.definition.specs.Names.{Role, attribute_only, term, variable_only, Use, use_as, in_terms, in_expression, in_item, in_program}
use Rattle.words.specs.Fields.{word, kind_of, RELATION_NAME, ATTRIBUTE, TERM, WORD, BIND, RANGE, NEXT, ANYTHING, ATOM, TRUTH, FALSITY, ORDER, NEGATION, CONJUNCTION, DISJUNCTION, IMPLICATION, EQUIVALENCE, EXISTS, FOR_ALL, CLOSURE, COMPARISON, MATCH, COUNT, LITERAL, SUM, RATIO, FIGURES, AMOUNT, ROWS, SAY, LINE_END, ASSIGN, TEST, JUMP, AGAIN, PRINT, STRING}
use Rattle.words.specs.Raw.{number, sign_number, leaves, size, flat, size_item, flat_item, size_items, flat_items, size_program, flat_program}
use Rattle.words.specs.Tokens.{OwnName, OwnTerms, OwnExpression, OwnItem, OwnItems, OwnProgram}
use Rattle.words.specs.Shown.{role_of, Shows, none, other, named}
use Rattle.words.proofs.FieldLaws.{kind_word, p_word, q_word}

module _ (ts : List Token) (few : length ts < 65536) where
  pub both : {xs ys : List ℕ} {us vs : List Use} → Shows ts xs us → Shows ts ys vs → Shows ts (xs ++ ys) (us ++ vs)
  both none t = t
  both (other h s) t = other h (both s t)
  both (named e f h l n o s) t = named e f h l n o (both s t)

  -- a word of no name, and a word of a name
  skip : (k p q r : ℕ) {xs : List ℕ} {us : List Use} → NEXT < k → k < 256 → Shows ts xs us → Shows ts (word k p q r ∷ xs) us
  skip k p q r h l s = let e : NEXT < kind_of (word k p q r) = rw (kind_word k p q r l) h in other e s

  pub first : (k q r : ℕ) (t : Token) {xs : List ℕ} {us : List Use} → 0 < k → k ≤ NEXT → OwnName ts t → q < 65536 → Shows ts xs us → Shows ts (word k (number t) q r ∷ xs) (use_as (role_of k q) t ∷ us)
  first k q r t h l o hq s =
      let f : number t < 65536 = omega (arith, o.inside) in
      named (kind_word k (number t) q r (omega arith)) (q_word k (number t) q r (omega arith) f hq) h l (p_word k (number t) q r (omega arith) f) o s

  -- a word of no name after others
  last : (k p q r : ℕ) {xs : List ℕ} {us : List Use} → NEXT < k → k < 256 → Shows ts xs us → Shows ts (xs ++ (word k p q r ∷ [])) us
  last k p q r {xs} {us} h l s = subst (Shows ts (xs ++ (word k p q r ∷ []))) (append-nil us) (both s (skip k p q r h l none))

  two_last : (k p q r : ℕ) {xs ys : List ℕ} {us vs : List Use} → NEXT < k → k < 256 → Shows ts xs us → Shows ts ys vs → Shows ts (xs ++ (ys ++ (word k p q r ∷ []))) (us ++ vs)
  two_last k p q r h l s t = both s (last k p q r h l t)

  pub leaves_uses : (k : ℕ) (p : Role) (ps : List Term) → 0 < k → k ≤ NEXT → role_of k 0 ≡ p → OwnTerms ts ps → Shows ts (leaves k ps) (in_terms p ps)
  unfolding leaves in_terms OwnTerms
  leaves_uses k p [] a b e o = none
  leaves_uses k p (name t ∷ ps) a b e o =
      subst (λ (q : Role). Shows ts (leaves k (name t ∷ ps)) (use_as q t ∷ in_terms p ps)) e (first k 0 0 t a b o.0 (omega arith) (leaves_uses k p ps a b e o.1))
  leaves_uses k p (string t ∷ ps) a b e o = skip (STRING + k) (number t) 0 0 (omega arith) (omega arith) (leaves_uses k p ps a b e o.1)
  leaves_uses k p (anything ∷ ps) a b e o = skip ANYTHING 0 0 0 (omega arith) (omega arith) (leaves_uses k p ps a b e o.1)

  terms_uses : (ps : List Term) → OwnTerms ts ps → Shows ts (leaves TERM ps) (in_terms term ps)
  unfolding role_of
  terms_uses ps o = leaves_uses TERM term ps (omega arith) (omega arith) refl o

  pub expression_uses : (e : Expression) (n : ℕ) → n + size e < 65536 → OwnExpression ts e → Shows ts (flat e n) (in_expression e)
  unfolding flat in_expression size OwnExpression role_of
  expression_uses (atom r ps) n h o =
      first RELATION_NAME (length ps) 0 r (omega arith) (omega arith) o.0 (omega arith) (last ATOM n (length ps) 0 (omega arith) (omega arith) (terms_uses ps o.1))
  expression_uses (truth ps) n h o = last TRUTH n (length ps) 0 (omega arith) (omega arith) (terms_uses ps o)
  expression_uses (falsity ps) n h o = last FALSITY n (length ps) 0 (omega arith) (omega arith) (terms_uses ps o)
  expression_uses (compare g p q) n h o = unfold leaves in last ORDER n (sign_number g) 0 (omega arith) (omega arith) (terms_uses (p ∷ q ∷ []) o)
  expression_uses (matching s p) n h o =
      unfold leaves in
      last DISJUNCTION _ _ 0 (omega arith) (omega arith)
      (last MATCH _ 32 n (omega arith) (omega arith) (last MATCH _ 0 n (omega arith) (omega arith) (terms_uses (p ∷ []) o.1)))
  expression_uses (negation e) n h o = last NEGATION (n + size e - 1) 0 0 (omega arith) (omega arith) (expression_uses e n (omega arith) o)
  expression_uses (conjunction a b) n h o =
      two_last CONJUNCTION _ _ 0 (omega arith) (omega arith) (expression_uses a n (omega arith) o.0) (expression_uses b _ (omega arith) o.1)
  expression_uses (disjunction a b) n h o =
      two_last DISJUNCTION _ _ 0 (omega arith) (omega arith) (expression_uses a n (omega arith) o.0) (expression_uses b _ (omega arith) o.1)
  expression_uses (implication a b) n h o =
      two_last IMPLICATION _ _ 0 (omega arith) (omega arith) (expression_uses a n (omega arith) o.0) (expression_uses b _ (omega arith) o.1)
  expression_uses (equivalence a b) n h o =
      two_last EQUIVALENCE _ _ 0 (omega arith) (omega arith) (expression_uses a n (omega arith) o.0) (expression_uses b _ (omega arith) o.1)
  expression_uses (exists x e) n h o =
      first ATTRIBUTE 0 0 x (omega arith) (omega arith) o.0 (omega arith) (last EXISTS n (n + size e) 0 (omega arith) (omega arith) (expression_uses e (n + 1) (omega arith) o.1))
  expression_uses (for_all x e) n h o =
      first ATTRIBUTE 0 0 x (omega arith) (omega arith) o.0 (omega arith) (last FOR_ALL n (n + size e) 0 (omega arith) (omega arith) (expression_uses e (n + 1) (omega arith) o.1))
  expression_uses (closure_of e) n h o = last CLOSURE (n + size e - 1) 0 0 (omega arith) (omega arith) (expression_uses e n (omega arith) o)
  expression_uses (compare_relations g a b) n h o =
      two_last COMPARISON _ _ (sign_number g) (omega arith) (omega arith) (expression_uses a n (omega arith) o.0) (expression_uses b _ (omega arith) o.1)
  expression_uses (literal t) n h o = skip LITERAL (number t) 0 0 (omega arith) (omega arith) none
  expression_uses (count_of e) n h o = last COUNT (n + size e - 1) 0 0 (omega arith) (omega arith) (expression_uses e n (omega arith) o)
  expression_uses (sum_of a b) n h o = two_last SUM _ _ 0 (omega arith) (omega arith) (expression_uses a n (omega arith) o.0) (expression_uses b _ (omega arith) o.1)
  expression_uses (ratio_of a b) n h o = two_last RATIO _ _ 0 (omega arith) (omega arith) (expression_uses a n (omega arith) o.0) (expression_uses b _ (omega arith) o.1)
  expression_uses (compare_figures g a b) n h o =
      two_last FIGURES _ _ (sign_number g) (omega arith) (omega arith) (expression_uses a n (omega arith) o.0) (expression_uses b _ (omega arith) o.1)

  item_uses : (i : Item) (n : ℕ) → n + size_item i < 65536 → OwnItem ts i → Shows ts (flat_item i n) (in_item i)
  unfolding flat_item in_item size_item OwnItem role_of
  item_uses (rows ps e) n h o =
      both (leaves_uses WORD variable_only ps (omega arith) (omega arith) refl o.0)
      (last ROWS n (length ps) 0 (omega arith) (omega arith) (expression_uses e (n + length ps) (omega arith) o.1))
  item_uses (Syntax.word p) n h o = unfold leaves in last SAY n 0 0 (omega arith) (omega arith) (leaves_uses WORD variable_only (p ∷ []) (omega arith) (omega arith) refl o)
  item_uses line_end n h o = skip LINE_END 0 0 0 (omega arith) (omega arith) none
  item_uses (amount e) n h o = last AMOUNT n 0 0 (omega arith) (omega arith) (expression_uses e n (omega arith) o)

  pub items_uses : (is : List Item) (n : ℕ) → n + size_items is < 65536 → OwnItems ts is → Shows ts (flat_items is n) (gather in_item is)
  unfolding flat_items gather size_items OwnItems
  items_uses [] n h o = none
  items_uses (i ∷ is) n h o = both (item_uses i n (omega arith) o.0) (items_uses is (n + size_item i) (omega arith) o.1)

  pub program_uses : (p : Program) (n : ℕ) → n + size_program p < 65536 → OwnProgram ts p → Shows ts (flat_program p n) (in_program p)
  unfolding flat_program in_program size_program OwnProgram role_of
  program_uses end n h o = none
  program_uses (assign i r ps e k) n h o =
      first RELATION_NAME (length ps) 0 r (omega arith) (omega arith) o.1 (omega arith)
      (both (leaves_uses ATTRIBUTE attribute_only ps (omega arith) (omega arith) refl o.2)
      (both (expression_uses e (n + 1 + length ps) (omega arith) o.3)
      (skip ASSIGN n (length ps) i (omega arith) (omega arith) (program_uses k (n + 1 + length ps + size e + 1) (omega arith) o.4))))
  program_uses (print i is k) n h o =
      both (items_uses is n (omega arith) o.1) (skip PRINT n 0 i (omega arith) (omega arith) (program_uses k (n + size_items is + 1) (omega arith) o.2))
  program_uses (test i e a b k) n h o =
      let m = n + size e + 1 in
      let l = m + size_program a + 1 in
      both (expression_uses e n (omega arith) o.1)
      (skip TEST 0 l i (omega arith) (omega arith)
      (both (program_uses a m (omega arith) o.2)
      (skip JUMP 0 (l + size_program b) 0 (omega arith) (omega arith)
      (both (program_uses b l (omega arith) o.3) (program_uses k (l + size_program b) (omega arith) o.4)))))
  program_uses (while i e a k) n h o =
      let m = n + size e + 1 in
      let l = m + size_program a + 1 in
      both (expression_uses e n (omega arith) o.1)
      (skip TEST 0 l i (omega arith) (omega arith)
      (both (program_uses a m (omega arith) o.2)
      (skip AGAIN (n + size e - 1) m 0 (omega arith) (omega arith) (program_uses k l (omega arith) o.3))))
  program_uses (for i v e a k) n h o =
      let m = n + 1 + size e + 1 in
      let l = m + size_program a in
      first BIND 0 0 v (omega arith) (omega arith) o.1 (omega arith)
      (both (expression_uses e (n + 1) (omega arith) o.2)
      (first RANGE l i v (omega arith) (omega arith) o.1 (omega arith)
      (both (program_uses a m (omega arith) o.3)
      (first NEXT m 0 v (omega arith) (omega arith) o.1 (omega arith) (program_uses k (l + 1) (omega arith) o.4)))))
  program_uses (block a k) n h o = both (program_uses a n (omega arith) o.0) (program_uses k (n + size_program a) (omega arith) o.1)

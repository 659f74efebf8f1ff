-- The patterns of a program stand in its words in the order of its tokens: the patterns that its words show are the program's.
use Prim.Native.Nat.{ℕ, ◌+◌, ◌-◌, ◌<◌}
use mathlib.Core.Path.{◌≡◌, refl, subst}
use mathlib.Core.Bool.{true, false}
use mathlib.Core.List.{List, [], ◌∷◌, ◌++◌, append-nil}
use native.Mathlib.Omega.{arith}
use borrow.Author.Tests.{ne_eqb}
use lib.ListN.{length}
use Rattle.definition.specs.Text.{gather}
use Rattle.definition.specs.Token.{Token}
use Rattle.definition.specs.Syntax.{Term, name, string, anything, Expression, atom, truth, falsity, compare, matching, negation, conjunction, disjunction, implication, equivalence, exists, for_all, closure_of, compare_relations, literal, count_of, sum_of, ratio_of, compare_figures}
use Rattle.definition.specs.Syntax as Syntax
use Rattle.definition.specs.Syntax.{Item, rows, line_end, amount, Program, end, assign, print, test, while, for, block}
use Rattle.definition.specs.Names.{patterns, item_patterns, program_patterns}
use Rattle.words.specs.Fields.{word, RELATION_NAME, ATTRIBUTE, TERM, WORD, BIND, RANGE, NEXT, ANYTHING, ATOM, TRUTH, FALSITY, ORDER, NEGATION, CONJUNCTION, DISJUNCTION, IMPLICATION, EQUIVALENCE, EXISTS, FOR_ALL, CLOSURE, COMPARISON, MATCH, COUNT, LITERAL, SUM, RATIO, FIGURES, AMOUNT, ROWS, SAY, LINE_END, ASSIGN, TEST, JUMP, AGAIN, PRINT, STRING}
use Rattle.words.specs.Raw.{number, sign_number, leaves, flat, size_item, flat_item, flat_items, flat_program}
use Rattle.words.specs.Tokens.{OwnExpression, OwnItem, OwnItems, OwnProgram}
use Rattle.words.specs.ShownPatterns.{first_half, ShowsPatterns, none, other, shown}
use Rattle.words.proofs.FieldLaws.{kind_word, p_word, q_word}

-- a word of another kind, and the word of a half
other_kind : (k p q r : ℕ) → k < 256 → (k ≡ MATCH → ⊥) → first_half (word k p q r) ≡ false
unfolding first_half
other_kind k p q r h z = rw (kind_word k p q r h, ne_eqb k MATCH z) refl

module _ (p n : ℕ) (h : p < 65536) where
  lower_half : first_half (word MATCH p 0 n) ≡ true
  unfolding first_half
  lower_half = rw (kind_word MATCH p 0 n (omega arith), q_word MATCH p 0 n (omega arith) h (omega arith)) refl

  upper_half : first_half (word MATCH p 32 n) ≡ false
  unfolding first_half
  upper_half = rw (kind_word MATCH p 32 n (omega arith), q_word MATCH p 32 n (omega arith) h (omega arith)) refl

module _ (ts : List Token) (few : length ts < 65536) where
  both : {xs ys : List ℕ} {us vs : List Token} → ShowsPatterns ts xs us → ShowsPatterns ts ys vs → ShowsPatterns ts (xs ++ ys) (us ++ vs)
  both none t = t
  both (other h s) t = other h (both s t)
  both (shown h e o s) t = shown h e o (both s t)

  -- a word of another kind, before others and after them
  skip : (k p q r : ℕ) {xs : List ℕ} {us : List Token} → k < 256 → (k ≡ MATCH → ⊥) → ShowsPatterns ts xs us → ShowsPatterns ts (word k p q r ∷ xs) us
  skip k p q r l z s = other (other_kind k p q r l z) s

  last : (k p q r : ℕ) {xs : List ℕ} {us : List Token} → k < 256 → (k ≡ MATCH → ⊥) → ShowsPatterns ts xs us → ShowsPatterns ts (xs ++ (word k p q r ∷ [])) us
  last k p q r {xs} {us} l z s = subst (ShowsPatterns ts (xs ++ (word k p q r ∷ []))) (append-nil us) (both s (skip k p q r l z none))

  two_last : (k p q r : ℕ) {xs ys : List ℕ} {us vs : List Token} → k < 256 → (k ≡ MATCH → ⊥) → ShowsPatterns ts xs us → ShowsPatterns ts ys vs
      → ShowsPatterns ts (xs ++ (ys ++ (word k p q r ∷ []))) (us ++ vs)
  two_last k p q r l z s t = both s (last k p q r l z t)

  leaves_patterns : (k : ℕ) (ps : List Term) → k < 5 → ShowsPatterns ts (leaves k ps) []
  unfolding leaves
  leaves_patterns k [] h = none
  leaves_patterns k (name t ∷ ps) h = skip k (number t) 0 0 (omega arith) (λ e. omega arith) (leaves_patterns k ps h)
  leaves_patterns k (string t ∷ ps) h = skip (STRING + k) (number t) 0 0 (omega arith) (λ e. omega arith) (leaves_patterns k ps h)
  leaves_patterns k (anything ∷ ps) h = skip ANYTHING 0 0 0 (omega arith) (λ e. omega arith) (leaves_patterns k ps h)

  terms_patterns : (ps : List Term) → ShowsPatterns ts (leaves TERM ps) []
  terms_patterns ps = leaves_patterns TERM ps (omega arith)

  pub expression_patterns : (e : Expression) (n : ℕ) → OwnExpression ts e → ShowsPatterns ts (flat e n) (patterns e)
  unfolding flat patterns OwnExpression
  expression_patterns (atom r ps) n o = skip RELATION_NAME (number r) (length ps) 0 (omega arith) (λ e. omega arith) (last ATOM n (length ps) 0 (omega arith) (λ e. omega arith) (terms_patterns ps))
  expression_patterns (truth ps) n o = last TRUTH n (length ps) 0 (omega arith) (λ e. omega arith) (terms_patterns ps)
  expression_patterns (falsity ps) n o = last FALSITY n (length ps) 0 (omega arith) (λ e. omega arith) (terms_patterns ps)
  expression_patterns (compare g p q) n o = unfold leaves in last ORDER n (sign_number g) 0 (omega arith) (λ e. omega arith) (terms_patterns (p ∷ q ∷ []))
  expression_patterns (matching s p) n o =
      unfold leaves in
      let h : number s < 65536 = omega (arith, o.0.inside) in
      both (terms_patterns (p ∷ []))
      (shown (lower_half (number s) n h) (p_word MATCH (number s) 0 n (omega arith) h) o.0
      (other (upper_half (number s) n h) (skip DISJUNCTION _ _ 0 (omega arith) (λ e. omega arith) none)))
  expression_patterns (negation e) n o = last NEGATION _ 0 0 (omega arith) (λ e. omega arith) (expression_patterns e n o)
  expression_patterns (conjunction a b) n o = two_last CONJUNCTION _ _ 0 (omega arith) (λ e. omega arith) (expression_patterns a n o.0) (expression_patterns b _ o.1)
  expression_patterns (disjunction a b) n o = two_last DISJUNCTION _ _ 0 (omega arith) (λ e. omega arith) (expression_patterns a n o.0) (expression_patterns b _ o.1)
  expression_patterns (implication a b) n o = two_last IMPLICATION _ _ 0 (omega arith) (λ e. omega arith) (expression_patterns a n o.0) (expression_patterns b _ o.1)
  expression_patterns (equivalence a b) n o = two_last EQUIVALENCE _ _ 0 (omega arith) (λ e. omega arith) (expression_patterns a n o.0) (expression_patterns b _ o.1)
  expression_patterns (exists x e) n o = skip ATTRIBUTE (number x) 0 0 (omega arith) (λ e. omega arith) (last EXISTS _ _ 0 (omega arith) (λ e. omega arith) (expression_patterns e (n + 1) o.1))
  expression_patterns (for_all x e) n o = skip ATTRIBUTE (number x) 0 0 (omega arith) (λ e. omega arith) (last FOR_ALL _ _ 0 (omega arith) (λ e. omega arith) (expression_patterns e (n + 1) o.1))
  expression_patterns (closure_of e) n o = last CLOSURE _ 0 0 (omega arith) (λ e. omega arith) (expression_patterns e n o)
  expression_patterns (compare_relations g a b) n o =
      two_last COMPARISON _ _ (sign_number g) (omega arith) (λ e. omega arith) (expression_patterns a n o.0) (expression_patterns b _ o.1)
  expression_patterns (literal t) n o = skip LITERAL (number t) 0 0 (omega arith) (λ e. omega arith) none
  expression_patterns (count_of e) n o = last COUNT _ 0 0 (omega arith) (λ e. omega arith) (expression_patterns e n o)
  expression_patterns (sum_of a b) n o = two_last SUM _ _ 0 (omega arith) (λ e. omega arith) (expression_patterns a n o.0) (expression_patterns b _ o.1)
  expression_patterns (ratio_of a b) n o = two_last RATIO _ _ 0 (omega arith) (λ e. omega arith) (expression_patterns a n o.0) (expression_patterns b _ o.1)
  expression_patterns (compare_figures g a b) n o = two_last FIGURES _ _ (sign_number g) (omega arith) (λ e. omega arith) (expression_patterns a n o.0) (expression_patterns b _ o.1)

  patterns_of_item : (i : Item) (n : ℕ) → OwnItem ts i → ShowsPatterns ts (flat_item i n) (item_patterns i)
  unfolding flat_item item_patterns OwnItem
  patterns_of_item (rows ps e) n o = both (leaves_patterns WORD ps (omega arith)) (last ROWS n (length ps) 0 (omega arith) (λ e. omega arith) (expression_patterns e (n + length ps) o.1))
  patterns_of_item (Syntax.word p) n o = unfold leaves in last SAY n 0 0 (omega arith) (λ e. omega arith) (leaves_patterns WORD (p ∷ []) (omega arith))
  patterns_of_item line_end n o = skip LINE_END 0 0 0 (omega arith) (λ e. omega arith) none
  patterns_of_item (amount e) n o = last AMOUNT n 0 0 (omega arith) (λ e. omega arith) (expression_patterns e n o)

  items_patterns : (is : List Item) (n : ℕ) → OwnItems ts is → ShowsPatterns ts (flat_items is n) (gather item_patterns is)
  unfolding flat_items gather OwnItems
  items_patterns [] n o = none
  items_patterns (i ∷ is) n o = both (patterns_of_item i n o.0) (items_patterns is (n + size_item i) o.1)

  pub patterns_of_program : (p : Program) (n : ℕ) → OwnProgram ts p → ShowsPatterns ts (flat_program p n) (program_patterns p)
  unfolding flat_program program_patterns OwnProgram
  patterns_of_program end n o = none
  patterns_of_program (assign i r ps e k) n o =
      skip RELATION_NAME (number r) (length ps) 0 (omega arith) (λ e. omega arith)
      (both (leaves_patterns ATTRIBUTE ps (omega arith))
      (both (expression_patterns e (n + 1 + length ps) o.3) (skip ASSIGN n (length ps) i (omega arith) (λ e. omega arith) (patterns_of_program k _ o.4))))
  patterns_of_program (print i is k) n o = both (items_patterns is n o.1) (skip PRINT n 0 i (omega arith) (λ e. omega arith) (patterns_of_program k _ o.2))
  patterns_of_program (test i e a b k) n o =
      both (expression_patterns e n o.1)
      (skip TEST 0 _ i (omega arith) (λ e. omega arith)
      (both (patterns_of_program a _ o.2)
      (skip JUMP 0 _ 0 (omega arith) (λ e. omega arith) (both (patterns_of_program b _ o.3) (patterns_of_program k _ o.4)))))
  patterns_of_program (while i e a k) n o =
      both (expression_patterns e n o.1)
      (skip TEST 0 _ i (omega arith) (λ e. omega arith)
      (both (patterns_of_program a _ o.2) (skip AGAIN _ _ 0 (omega arith) (λ e. omega arith) (patterns_of_program k _ o.3))))
  patterns_of_program (for i v e a k) n o =
      skip BIND (number v) 0 0 (omega arith) (λ e. omega arith)
      (both (expression_patterns e (n + 1) o.2)
      (skip RANGE (number v) _ i (omega arith) (λ e. omega arith)
      (both (patterns_of_program a _ o.3) (skip NEXT (number v) _ 0 (omega arith) (λ e. omega arith) (patterns_of_program k _ o.4)))))
  patterns_of_program (block a k) n o = both (patterns_of_program a n o.0) (patterns_of_program k _ o.1)

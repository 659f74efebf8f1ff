-- The closures among a statement's words are those of its expressions.
use Prim.Native.Nat.{ℕ, suc, ◌+◌, ◌<◌}
use mathlib.Core.Path.{◌≡◌, refl, ap, ◌∙◌}
use mathlib.Core.List.{List, [], ◌∷◌, ◌++◌}
use native.Mathlib.Omega.{arith}
use borrow.Author.Tests.{ne_eqb}
use lib.ListN.{length, length-append}
use Rattle.definition.specs.Text.{gather}
use Rattle.definition.proofs.ListLaws.{gather_append}
use Rattle.definition.specs.Syntax.{Term, name, string, anything, Expression, atom, truth, falsity, compare, matching, negation, conjunction, disjunction, implication, equivalence, exists, for_all, closure_of, compare_relations, literal, count_of, sum_of, ratio_of, compare_figures}
use Rattle.definition.specs.Syntax as Syntax
use Rattle.definition.specs.Syntax.{Item, rows, line_end, amount}
use Rattle.definition.specs.Names.{closures, item_expressions}
use Rattle.words.specs.Fields.{word, RELATION_NAME, ATTRIBUTE, TERM, WORD, ANYTHING, ATOM, TRUTH, FALSITY, ORDER, NEGATION, CONJUNCTION, DISJUNCTION, IMPLICATION, EQUIVALENCE, EXISTS, FOR_ALL, CLOSURE, COMPARISON, MATCH, COUNT, LITERAL, SUM, RATIO, FIGURES, AMOUNT, ROWS, SAY, LINE_END, STRING}
use Rattle.words.specs.Raw.{number, sign_number, leaves, size, flat, size_item, flat_item, flat_items}
use Rattle.words.proofs.FieldLaws.{kind_word}
use Rattle.slots.specs.Slots.{one_closure, closure_count}

count_append : (xs ys : List ℕ) → closure_count (xs ++ ys) ≡ closure_count xs + closure_count ys
unfolding closure_count
count_append [] ys = omega arith
count_append (x ∷ xs) ys = rw (count_append xs ys) (omega arith)

no_closure : (k p q r : ℕ) → k < 256 → (k ≡ CLOSURE → ⊥) → one_closure (word k p q r) ≡ 0
unfolding one_closure
no_closure k p q r h n = rw (kind_word k p q r h, ne_eqb k CLOSURE n) refl

pub skip : (k p q r : ℕ) (ws : List ℕ) {n : ℕ} → k < 256 → (k ≡ CLOSURE → ⊥) → closure_count ws ≡ n → closure_count (word k p q r ∷ ws) ≡ n
unfolding closure_count
skip k p q r ws h n e = rw (no_closure k p q r h n) (omega (arith, e))

count_nil : closure_count [] ≡ 0
unfolding closure_count
count_nil = refl

last : (xs : List ℕ) (k p q r : ℕ) {n : ℕ} → k < 256 → (k ≡ CLOSURE → ⊥) → closure_count xs ≡ n → closure_count (xs ++ (word k p q r ∷ [])) ≡ n
last xs k p q r h n e = count_append xs _ ∙ omega (arith, e, skip k p q r [] h n count_nil)

two_last : (xs ys : List ℕ) (k p q r : ℕ) {m n : ℕ} → k < 256 → (k ≡ CLOSURE → ⊥) → closure_count xs ≡ m → closure_count ys ≡ n → closure_count (xs ++ (ys ++ (word k p q r ∷ []))) ≡ m + n
two_last xs ys k p q r h n e f = count_append xs _ ∙ omega (arith, e, last ys k p q r h n f)

count_leaves : (k : ℕ) (ps : List Term) → k < 8 → closure_count (leaves k ps) ≡ 0
unfolding leaves
count_leaves k [] h = count_nil
count_leaves k (name t ∷ ps) h = skip k (number t) 0 0 (leaves k ps) (omega arith) (λ e. omega arith) (count_leaves k ps h)
count_leaves k (string t ∷ ps) h = skip (STRING + k) (number t) 0 0 (leaves k ps) (omega arith) (λ e. omega arith) (count_leaves k ps h)
count_leaves k (anything ∷ ps) h = skip ANYTHING 0 0 0 (leaves k ps) (omega arith) (λ e. omega arith) (count_leaves k ps h)

terms : (ps : List Term) → closure_count (leaves TERM ps) ≡ 0
terms ps = count_leaves TERM ps (omega arith)

closure_last : (xs : List ℕ) (p : ℕ) {n : ℕ} → closure_count xs ≡ n → closure_count (xs ++ (word CLOSURE p 0 0 ∷ [])) ≡ suc n
unfolding closure_count one_closure
closure_last xs p e =
    let s : closure_count (word CLOSURE p 0 0 ∷ []) ≡ 1 = rw (kind_word CLOSURE p 0 0 (omega arith)) refl in
    count_append xs _ ∙ omega (arith, e, s)

both : (a b : Expression) {m n : ℕ} → m ≡ length (closures a) → n ≡ length (closures b) → m + n ≡ length (closures a ++ closures b)
both a b e f = omega (arith, e, f, length-append (closures a) (closures b))

pub count_expression : (e : Expression) (n : ℕ) → closure_count (flat e n) ≡ length (closures e)
unfolding flat closures
count_expression (atom r ps) n = skip RELATION_NAME _ _ 0 _ (omega arith) (λ e. omega arith) (last (leaves TERM ps) ATOM _ _ 0 (omega arith) (λ e. omega arith) (terms ps))
count_expression (truth ps) n = last (leaves TERM ps) TRUTH _ _ 0 (omega arith) (λ e. omega arith) (terms ps)
count_expression (falsity ps) n = last (leaves TERM ps) FALSITY _ _ 0 (omega arith) (λ e. omega arith) (terms ps)
count_expression (compare g p q) n = unfold leaves in last (leaves TERM (p ∷ q ∷ [])) ORDER _ _ 0 (omega arith) (λ e. omega arith) (terms (p ∷ q ∷ []))
count_expression (matching s p) n =
    unfold leaves in
    last (_ ∷ _ ∷ _ ∷ []) DISJUNCTION _ _ 0 (omega arith) (λ e. omega arith)
    (last (_ ∷ _ ∷ []) MATCH _ 32 n (omega arith) (λ e. omega arith) (last (leaves TERM (p ∷ [])) MATCH _ 0 n (omega arith) (λ e. omega arith) (terms (p ∷ []))))
count_expression (negation e) n = last (flat e n) NEGATION _ 0 0 (omega arith) (λ e. omega arith) (count_expression e n)
count_expression (conjunction a b) n = two_last _ _ CONJUNCTION _ _ 0 (omega arith) (λ e. omega arith) (count_expression a n) (count_expression b (n + size a)) ∙ both a b refl refl
count_expression (disjunction a b) n = two_last _ _ DISJUNCTION _ _ 0 (omega arith) (λ e. omega arith) (count_expression a n) (count_expression b (n + size a)) ∙ both a b refl refl
count_expression (implication a b) n = two_last _ _ IMPLICATION _ _ 0 (omega arith) (λ e. omega arith) (count_expression a n) (count_expression b (n + size a)) ∙ both a b refl refl
count_expression (equivalence a b) n = two_last _ _ EQUIVALENCE _ _ 0 (omega arith) (λ e. omega arith) (count_expression a n) (count_expression b (n + size a)) ∙ both a b refl refl
count_expression (exists x e) n = skip ATTRIBUTE _ 0 0 _ (omega arith) (λ e. omega arith) (last (flat e (n + 1)) EXISTS _ _ 0 (omega arith) (λ e. omega arith) (count_expression e (n + 1)))
count_expression (for_all x e) n = skip ATTRIBUTE _ 0 0 _ (omega arith) (λ e. omega arith) (last (flat e (n + 1)) FOR_ALL _ _ 0 (omega arith) (λ e. omega arith) (count_expression e (n + 1)))
count_expression (closure_of e) n = closure_last (flat e n) _ (count_expression e n)
count_expression (compare_relations g a b) n = two_last _ _ COMPARISON _ _ (sign_number g) (omega arith) (λ e. omega arith) (count_expression a n) (count_expression b (n + size a)) ∙ both a b refl refl
count_expression (literal t) n = skip LITERAL _ 0 0 [] (omega arith) (λ e. omega arith) count_nil
count_expression (count_of e) n = last (flat e n) COUNT _ 0 0 (omega arith) (λ e. omega arith) (count_expression e n)
count_expression (sum_of a b) n = two_last _ _ SUM _ _ 0 (omega arith) (λ e. omega arith) (count_expression a n) (count_expression b (n + size a)) ∙ both a b refl refl
count_expression (ratio_of a b) n = two_last _ _ RATIO _ _ 0 (omega arith) (λ e. omega arith) (count_expression a n) (count_expression b (n + size a)) ∙ both a b refl refl
count_expression (compare_figures g a b) n = two_last _ _ FIGURES _ _ (sign_number g) (omega arith) (λ e. omega arith) (count_expression a n) (count_expression b (n + size a)) ∙ both a b refl refl

-- the words of an assignment before its own, and those of a PRINT's items
pub count_assign : (p q : ℕ) (ps : List Term) (e : Expression) (n : ℕ) → closure_count (word RELATION_NAME p q 0 ∷ (leaves ATTRIBUTE ps ++ flat e n)) ≡ length (closures e)
count_assign p q ps e n =
    skip RELATION_NAME p q 0 _ (omega arith) (λ e. omega arith) (count_append (leaves ATTRIBUTE ps) (flat e n) ∙ omega (arith, count_leaves ATTRIBUTE ps (omega arith), count_expression e n))

one_item : (i : Item) (n : ℕ) → closure_count (flat_item i n) ≡ length (gather closures (item_expressions i))
unfolding flat_item gather
one_item (rows ps e) n =
    two_last (leaves WORD ps) (flat e (n + length ps)) ROWS _ _ 0 (omega arith) (λ e. omega arith) (count_leaves WORD ps (omega arith)) (count_expression e (n + length ps))
    ∙ omega (arith, length-append (closures e) [])
one_item (Syntax.word p) n = unfold leaves in last (leaves WORD (p ∷ [])) SAY _ 0 0 (omega arith) (λ e. omega arith) (count_leaves WORD (p ∷ []) (omega arith))
one_item line_end n = skip LINE_END 0 0 0 [] (omega arith) (λ e. omega arith) count_nil
one_item (amount e) n = last (flat e n) AMOUNT _ 0 0 (omega arith) (λ e. omega arith) (count_expression e n) ∙ omega (arith, length-append (closures e) [])

pub count_items : (is : List Item) (n : ℕ) → closure_count (flat_items is n) ≡ length (gather closures (gather item_expressions is))
unfolding flat_items gather
count_items [] n = count_nil
count_items (i ∷ is) n =
    count_append (flat_item i n) _
    ∙ omega (arith, one_item i n, count_items is (n + size_item i), ap length (gather_append closures (item_expressions i) (gather item_expressions is)), length-append (gather closures (item_expressions i)) (gather closures (gather item_expressions is)))

-- The limits of each statement of an accepted program: its attributes, its closures, the free attributes of its expressions.
use mathlib.Core.Path.{◌≡◌}
use mathlib.Core.Bool.{Bool, true, ◌&&◌, ◌||◌, not, and-eq-true_iff}
use mathlib.Core.List.{List, [], ◌∷◌, ◌++◌}
use Prim.Native.Nat.{ℕ, ◌≤◌}
use lib.Dec.{eqb, ltb, leb}
use lib.ListN.{length}
use borrow.Author.Tests.{ltb-false, leb-true, eqb-true, not-false}
use Rattle.definition.specs.Text.{Text, all_of, gather}
use Rattle.definition.specs.Limits.{ATTRIBUTES, CLOSURES, PRINTED_ATTRIBUTES}
use Rattle.definition.specs.Syntax.{Expression, Program, end, assign, print, test, while, for, block}
use Rattle.definition.specs.Answer.{Answer, ok, ◌>>◌, refuse_if}
use Rattle.definition.specs.Names.{attribute_only, Use, in_terms, in_expression, in_item, attributes, free, closures, counted_in, attribute_names, statement_rows, subset, item_expressions, program_rows}
use Rattle.definition.proofs.BoolLaws.{or_eq_false}
use Rattle.definition.proofs.AcceptLaws.{then_ok, was_ok, not_refused}

both_ok : (m q : Answer (Unit {0})) → ◌>>◌ m q ≡ ok tt → (m ≡ ok tt) × (q ≡ ok tt)
both_ok m q e = (was_ok m q tt e, then_ok m q tt e)

-- what holds of every expression of a list
unfoldable pub Every : (Expression → Type 0) → List Expression → Type 0
Every P [] = Unit {0}
Every P (e ∷ es) = P e × Every P es

every : (P : Expression → Type 0) (p : Expression → Bool) → ((e : Expression) → p e ≡ true → P e) → (es : List Expression) → all_of p es ≡ true → Every P es
unfolding Every all_of
every P p f [] h = tt
every P p f (e ∷ es) h =
    let (a, b) = (and-eq-true_iff (p e) (all_of p es)).0 h in
    (f e a, every P p f es b)

-- `vs` says which names are loop variables
module _ (vs : Text → Bool) where
  -- a statement with the names us and the expressions es: "at most 4 attribute names and 16 closures a statement", "TC and TCFAST two", `#(e)` "no more free attributes than a printed expression may"
  pub record StatementOk (us : List Use) (es : List Expression) : Type 0 where
    pub few_attributes : length (attribute_names vs us) ≤ ATTRIBUTES
    pub few_closures : length (gather closures es) ≤ CLOSURES
    pub closed : Every (λ e. length (free vs e) ≡ 2) (gather closures es)
    pub counted : Every (λ e. length (free vs e) ≤ PRINTED_ATTRIBUTES) (gather counted_in es)

  -- a program, statement by statement: the limits of each, then what its free attributes are
  unfoldable pub RowsOk : Program → Type 0
  RowsOk end = Unit {0}
  RowsOk (assign i r ps e q) =
      StatementOk (in_terms attribute_only ps ++ in_expression e) (e ∷ [])
      × ((subset (attributes vs ps) (free vs e) ≡ true) × ((subset (free vs e) (attributes vs ps) ≡ true) × RowsOk q))
  RowsOk (print i is q) =
      StatementOk (gather in_item is) (gather item_expressions is) × (Every (λ e. length (free vs e) ≤ PRINTED_ATTRIBUTES) (gather item_expressions is) × RowsOk q)
  RowsOk (test i e a b q) = StatementOk (in_expression e) (e ∷ []) × ((length (free vs e) ≡ 0) × (RowsOk a × (RowsOk b × RowsOk q)))
  RowsOk (while i e a q) = StatementOk (in_expression e) (e ∷ []) × ((length (free vs e) ≡ 0) × (RowsOk a × RowsOk q))
  RowsOk (for i v e a q) = StatementOk (in_expression e) (e ∷ []) × ((length (free vs e) ≡ 1) × (RowsOk a × RowsOk q))
  RowsOk (block a q) = RowsOk a × RowsOk q

  -- one statement, and what follows it
  statement_ok : (i : ℕ) (us : List Use) (es : List Expression) (right : Bool) (q : Answer (Unit {0})) → ◌>>◌ (statement_rows vs i us es right) q ≡ ok tt
      → StatementOk us es × (right ≡ true) × (q ≡ ok tt)
  unfolding statement_rows
  statement_ok i us es right q h =
      let cs = gather closures es in
      let many = ltb ATTRIBUTES (length (attribute_names vs us)) || ltb CLOSURES (length cs) in
      let ns = gather counted_in es in
      let pairs = all_of (λ (c : Expression). eqb (length (free vs c)) 2) cs in
      let few = all_of (λ (c : Expression). leb (length (free vs c)) PRINTED_ATTRIBUTES) ns in
      let fits = right && (pairs && few) in
      let (e, g) = both_ok (statement_rows vs i us es right) q h in
      let (e₁, e₂) = both_ok (refuse_if many 13 i) (refuse_if (not fits) 12 i) e in
      let (a, b) = or_eq_false (ltb ATTRIBUTES (length (attribute_names vs us))) (ltb CLOSURES (length cs)) (not_refused many 13 i e₁) in
      let (c, f) = (and-eq-true_iff right (pairs && few)).0 (not-false fits (not_refused (not fits) 12 i e₂)) in
      let (d, n) = (and-eq-true_iff pairs few).0 f in
      let limits : StatementOk us es = record {
        few_attributes = ltb-false ATTRIBUTES (length (attribute_names vs us)) a;
        few_closures = ltb-false CLOSURES (length cs) b;
        closed = every _ _ (λ x h. eqb-true (length (free vs x)) 2 h) cs d;
        counted = every _ _ (λ x h. leb-true (length (free vs x)) PRINTED_ATTRIBUTES h) ns n;
      } in
      (limits, c, g)

  -- "IF and WHILE have none, FOR one": so many free attributes
  test_ok : (i n : ℕ) (e : Expression) (q : Answer (Unit {0})) → ◌>>◌ (statement_rows vs i (in_expression e) (e ∷ []) (eqb (length (free vs e)) n)) q ≡ ok tt
      → StatementOk (in_expression e) (e ∷ []) × (length (free vs e) ≡ n) × (q ≡ ok tt)
  test_ok i n e q h =
      let (s, c, g) = statement_ok i (in_expression e) (e ∷ []) (eqb (length (free vs e)) n) q h in
      (s, eqb-true (length (free vs e)) n c, g)

  -- "13 then 12 by statement"
  pub rows_ok : (p : Program) → program_rows vs p ≡ ok tt → RowsOk p
  unfolding program_rows RowsOk
  rows_ok end h = tt
  rows_ok (assign i r ps e q) h =
      let left = subset (attributes vs ps) (free vs e) in
      let right = subset (free vs e) (attributes vs ps) in
      let (s, c, g) = statement_ok i (in_terms attribute_only ps ++ in_expression e) (e ∷ []) (left && right) (program_rows vs q) h in
      let (a, b) = (and-eq-true_iff left right).0 c in
      (s, (a, (b, rows_ok q g)))
  rows_ok (print i is q) h =
      let es = gather item_expressions is in
      let (s, c, g) = statement_ok i (gather in_item is) es (all_of (λ e. leb (length (free vs e)) PRINTED_ATTRIBUTES) es) (program_rows vs q) h in
      (s, (every _ _ (λ x h. leb-true (length (free vs x)) PRINTED_ATTRIBUTES h) es c, rows_ok q g))
  rows_ok (test i e a b q) h =
      let (s, c, g) = test_ok i 0 e (◌>>◌ (program_rows vs a) (◌>>◌ (program_rows vs b) (program_rows vs q))) h in
      let (g₁, g₂) = both_ok (program_rows vs a) (◌>>◌ (program_rows vs b) (program_rows vs q)) g in
      let (g₃, g₄) = both_ok (program_rows vs b) (program_rows vs q) g₂ in
      (s, (c, (rows_ok a g₁, (rows_ok b g₃, rows_ok q g₄))))
  rows_ok (while i e a q) h =
      let (s, c, g) = test_ok i 0 e (◌>>◌ (program_rows vs a) (program_rows vs q)) h in
      let (g₁, g₂) = both_ok (program_rows vs a) (program_rows vs q) g in
      (s, (c, (rows_ok a g₁, rows_ok q g₂)))
  rows_ok (for i v e a q) h =
      let (s, c, g) = test_ok i 1 e (◌>>◌ (program_rows vs a) (program_rows vs q)) h in
      let (g₁, g₂) = both_ok (program_rows vs a) (program_rows vs q) g in
      (s, (c, (rows_ok a g₁, rows_ok q g₂)))
  rows_ok (block a q) h =
      let (g₁, g₂) = both_ok (program_rows vs a) (program_rows vs q) h in
      (rows_ok a g₁, rows_ok q g₂)

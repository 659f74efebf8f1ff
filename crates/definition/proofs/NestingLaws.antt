-- Programs that are read, statement by statement with their levels; FORs stand at most 32 deep, since each opens a block and the reader
-- refuses the 33rd level.
use mathlib.Core.Path.{◌≡◌, refl, subst}
use mathlib.Core.Bool.{false}
use mathlib.Core.List.{List, [], ◌∷◌, ◌++◌}
use Prim.Native.Nat.{ℕ, zero, suc, ◌+◌, ◌≤◌, ◌<◌}
use native.Mathlib.Omega.{arith}
use native.Mathlib.Decide.{dec_le}
use lib.Dec.{ltb}
use lib.ListN.{length, get_or}
use Rattle.definition.specs.Text.{Text}
use Rattle.definition.specs.Limits.{NESTING, QUERY_BYTES, TOKENS}
use Rattle.definition.specs.Token.{Token, terminals, place_at, lexed}
use Rattle.definition.specs.Grammar.{Nonterminal, Tree, row, rows_met}
use Rattle.definition.specs.Reader.{read_program}
use Rattle.definition.specs.Syntax.{Expression, truth, Program, end, assign, print, test, while, for, block, Says, size, the, says}
use Rattle.definition.specs.Answer.{ok, refuse_if}
use Rattle.definition.specs.Accept.{read_query, lexed_answer, read_answer}
use Rattle.definition.proofs.AnswerLaws.{GrammarRows, good, grammar_rows}
use Rattle.definition.proofs.GrammarPlaces.{row_not}
use Rattle.definition.proofs.AcceptLaws.{ok_injective, bind_ok, then_ok}

-- no row is met
pub record Low (ns : List ℕ) : Type 0 where
  pub each : (i : ℕ) → get_or ns i 0 ≡ 0

pub low_rest : {n : ℕ} {ns : List ℕ} → Low (n ∷ ns) → Low ns
low_rest h = record { each = λ i. h.each (suc i) }

pub low_left : (ms ns : List ℕ) → Low (ms ++ ns) → Low ms
low_left [] ns h = record { each = λ i. refl }
low_left (m ∷ ms) ns h = record { each = elim [ zero ↦ h.each 0 | suc i ↦ (low_left ms ns (low_rest h)).each i ] }

pub low_right : (ms ns : List ℕ) → Low (ms ++ ns) → Low ns
low_right [] ns h = h
low_right (m ∷ ms) ns h = low_right ms ns (low_rest h)

low_inside : (d : ℕ) (ms ns : List ℕ) → Low (d ∷ (ms ++ (ns ++ (d ∷ [])))) → Low ms × Low ns
low_inside d ms ns h = (low_left ms (ns ++ (d ∷ [])) (low_rest h), low_left ns (d ∷ []) (low_right ms (ns ++ (d ∷ [])) (low_rest h)))

-- a block is one level deeper
low_block : (b : Tree Nonterminal.Block) (d : ℕ) → Low (rows_met b d) → d < NESTING
low_block (Tree.block a b) d h = shallow d (dec_le (suc d) NESTING) (h.each 0)
  where
    shallow : (d : ℕ) → Dec (suc d ≤ NESTING) → row false (suc d) ≡ 0 → d < NESTING
    shallow d (yes h) e = h
    shallow d (no h) e = absurd (omega (arith, e, row_not (suc d) (omega arith)))

-- what holds of a program at a level, if it does so statement by statement: a block is one level deeper
pub record Steps (ts : List Token) (P : ℕ → Program → Type 0) : Type 0 where
  pub at_end : (d : ℕ) → P d end
  pub at_assign : (d i : ℕ) (r : Token) (u : Tree Nonterminal.Lefts) (e : Expression) (k : Program) → P d k → P d (assign i r (says ts u) e k)
  pub at_print : (d i : ℕ) (a : Tree Nonterminal.Item) (b : Tree Nonterminal.MoreItems) (k : Program) → P d k → P d (print i (says ts a ∷ says ts b) k)
  pub at_test : (d i : ℕ) (e : Expression) (a b k : Program) → P (suc d) a → P (suc d) b → P d k → P d (test i e a b k)
  pub at_while : (d i : ℕ) (e : Expression) (a k : Program) → P (suc d) a → P d k → P d (while i e a k)
  pub at_for : (d i : ℕ) (v : Token) (e : Expression) (a k : Program) → d < NESTING → P (suc d) a → P d k → P d (for i v e a k)
  pub at_block : (d : ℕ) (a k : Program) → P (suc d) a → P d k → P d (block a k)

module _ (ts : List Token) (P : ℕ → Program → Type 0) (step : Steps ts P) where
  -- what each phrase at the level d says
  abbrev Holds : (n : Nonterminal) → Says n → ℕ → Type 0
  Holds Nonterminal.Program p d = P d p
  Holds Nonterminal.MoreStatements f d = (i : ℕ) → P d (f i)
  Holds Nonterminal.Statement f d = (i : ℕ) (k : Program) → P d k → P d (f i k)
  Holds Nonterminal.Block f d = (i : ℕ) → P (suc d) (f i)
  Holds Nonterminal.Else f d = (i : ℕ) → P (suc d) (f i)
  Holds Nonterminal.Lefts x d = Unit {0}
  Holds Nonterminal.MoreLefts x d = Unit {0}
  Holds Nonterminal.Left x d = Unit {0}
  Holds Nonterminal.MoreItems x d = Unit {0}
  Holds Nonterminal.Item x d = Unit {0}
  Holds Nonterminal.Word x d = Unit {0}
  Holds Nonterminal.Terms x d = Unit {0}
  Holds Nonterminal.MoreTerms x d = Unit {0}
  Holds Nonterminal.Term x d = Unit {0}
  Holds Nonterminal.Expression x d = Unit {0}
  Holds Nonterminal.Comparison x d = Unit {0}
  Holds Nonterminal.Implication x d = Unit {0}
  Holds Nonterminal.Consequent x d = Unit {0}
  Holds Nonterminal.Disjunction x d = Unit {0}
  Holds Nonterminal.MoreOr x d = Unit {0}
  Holds Nonterminal.Conjunction x d = Unit {0}
  Holds Nonterminal.MoreAnd x d = Unit {0}
  Holds Nonterminal.Negation x d = Unit {0}
  Holds Nonterminal.Primary x d = Unit {0}
  Holds Nonterminal.Quantified x d = Unit {0}
  Holds Nonterminal.Quantity x d = Unit {0}
  Holds Nonterminal.Divisor x d = Unit {0}
  Holds (Nonterminal.Summand b) x d = Unit {0}
  Holds (Nonterminal.MoreSummands k) x d = Unit {0}

  holds : {n : Nonterminal} (t : Tree n) (d : ℕ) → Low (rows_met t d) → Holds n (says ts t) d
  unfolding says
  holds (Tree.program a b) d h = holds a d (low_left (rows_met a d) (rows_met b d) h) 0 (says ts b (size a)) (holds b d (low_right (rows_met a d) (rows_met b d) h) (size a))
  holds Tree.end_statements d h = λ i. step.at_end d
  holds (Tree.more_statements a b) d h =
      λ i. holds a d (low_left (rows_met a d) (rows_met b d) h) i (says ts b (i + size a)) (holds b d (low_right (rows_met a d) (rows_met b d) h) (i + size a))
  holds (Tree.assignment r u e) d h = λ i k g. step.at_assign d (the ts i).at (the ts r) u (says ts e) k g
  holds (Tree.assertion r u) d h = λ i k g. step.at_assign d (the ts i).at (the ts r) u (truth (says ts u)) k g
  holds (Tree.conditional e a b) d h =
      let hs = low_right (rows_met e d) (rows_met a d ++ rows_met b d) (low_rest h) in
      λ i k g.
      step.at_test d (the ts i).at (says ts e) (says ts a (suc i + size e)) (says ts b (suc i + size e + size a)) k
      (holds a d (low_left (rows_met a d) (rows_met b d) hs) (suc i + size e)) (holds b d (low_right (rows_met a d) (rows_met b d) hs) (suc i + size e + size a)) g
  holds (Tree.while_loop e a) d h =
      λ i k g. step.at_while d (the ts i).at (says ts e) (says ts a (suc i + size e)) k (holds a d (low_right (rows_met e d) (rows_met a d) (low_rest h)) (suc i + size e)) g
  holds (Tree.for_loop v e a) d h =
      let hs = low_right (rows_met e d) (rows_met a d) (low_rest (low_rest (low_rest h))) in
      λ i k g. step.at_for d (the ts i).at (the ts v) (says ts e) (says ts a (3 + i + size e)) k (low_block a d hs) (holds a d hs (3 + i + size e)) g
  holds (Tree.nested_block a b) d h =
      let (f, g) = low_inside (row false (suc d)) (rows_met a (suc d)) (rows_met b (suc d)) h in
      λ i k q.
      step.at_block d (says ts a (suc i) (says ts b (suc i + size a))) k (holds a (suc d) f (suc i) (says ts b (suc i + size a)) (holds b (suc d) g (suc i + size a))) q
  holds (Tree.print_statement a b) d h = λ i k g. step.at_print d (the ts i).at a b k g
  holds (Tree.block a b) d h =
      let (f, g) = low_inside (row false (suc d)) (rows_met a (suc d)) (rows_met b (suc d)) h in
      λ i. holds a (suc d) f (suc i) (says ts b (suc i + size a)) (holds b (suc d) g (suc i + size a))
  holds Tree.no_else d h = λ i. step.at_end (suc d)
  holds (Tree.else_block a) d h = λ i. holds a d (low_rest h) (suc i)
  holds Tree.no_lefts d h = tt
  holds (Tree.lefts a b) d h = tt
  holds Tree.end_lefts d h = tt
  holds (Tree.more_lefts a b) d h = tt
  holds (Tree.left_name x) d h = tt
  holds (Tree.left_string x) d h = tt
  holds Tree.end_items d h = tt
  holds (Tree.more_items a b) d h = tt
  holds (Tree.item_expression e) d h = tt
  holds (Tree.item_labelled w e) d h = tt
  holds (Tree.item_word w) d h = tt
  holds Tree.item_endl d h = tt
  holds (Tree.word_name x) d h = tt
  holds (Tree.word_string x) d h = tt
  holds Tree.no_terms d h = tt
  holds (Tree.terms a b) d h = tt
  holds Tree.end_terms d h = tt
  holds (Tree.more_terms a b) d h = tt
  holds (Tree.term_name x) d h = tt
  holds (Tree.term_string x) d h = tt
  holds Tree.term_any d h = tt
  holds (Tree.expression a b) d h = tt
  holds Tree.no_comparison d h = tt
  holds (Tree.comparison g a) d h = tt
  holds (Tree.implication a b) d h = tt
  holds Tree.no_consequent d h = tt
  holds (Tree.implies a) d h = tt
  holds (Tree.iff a) d h = tt
  holds (Tree.disjunction a b) d h = tt
  holds Tree.end_or d h = tt
  holds (Tree.more_or a b) d h = tt
  holds (Tree.conjunction a b) d h = tt
  holds Tree.end_and d h = tt
  holds (Tree.more_and a b) d h = tt
  holds (Tree.negation a) d h = tt
  holds (Tree.primary a) d h = tt
  holds (Tree.group e) d h = tt
  holds (Tree.ex x q) d h = tt
  holds (Tree.fa x q) d h = tt
  holds (Tree.tc e) d h = tt
  holds (Tree.tcfast e) d h = tt
  holds (Tree.atom r u) d h = tt
  holds (Tree.true_atom u) d h = tt
  holds (Tree.false_atom u) d h = tt
  holds (Tree.sign_before g a b) d h = tt
  holds (Tree.sign_between a g b) d h = tt
  holds (Tree.pattern_atom s a) d h = tt
  holds (Tree.one_more_attribute x q) d h = tt
  holds (Tree.quantified_body e) d h = tt
  holds (Tree.item_quantity q) d h = tt
  holds (Tree.figures a g b) d h = tt
  holds (Tree.quantity a m v) d h = tt
  holds Tree.no_divisor d h = tt
  holds (Tree.divisor a m) d h = tt
  holds Tree.end_summands d h = tt
  holds (Tree.more_summands a m) d h = tt
  holds (Tree.counted e) d h = tt
  holds (Tree.literal o x) d h = tt

pub low_tree : {n : ℕ} {ts : List Token} {t : Tree Nonterminal.Program} → GrammarRows n ts (ok t) → Low (rows_met t 0)
low_tree (good g) = record { each = g.within }

-- so it holds of a program that is read
pub read_steps : (query : Text) (p : Program) → read_query query ≡ ok p → (P : ℕ → Program → Type 0) → ((ts : List Token) → Steps ts P) → P 0 p
unfolding read_query
read_steps query p e P step =
    let e₁ = then_ok (refuse_if (ltb QUERY_BYTES (length query)) 8 QUERY_BYTES) _ p e in
    let (ts, q, e₂) = bind_ok (lexed_answer (lexed query)) _ p e₁ in
    let e₃ = then_ok (refuse_if (ltb TOKENS (length ts)) 13 (place_at (length query) ts TOKENS)) _ p e₂ in
    let (t, q₂, e₄) = bind_ok (read_answer (length query) ts (read_program (terminals ts))) _ p e₃ in
    subst (P 0) (ok_injective e₄) (holds ts P (step ts) t 0 (low_tree (subst (GrammarRows (length query) ts) q₂ (grammar_rows (length query) ts))))

-- FORs inside FORs: d of them stand around the program
unfoldable pub Nested : ℕ → Program → Type 0
Nested d end = Unit {0}
Nested d (assign i r ps e q) = Nested d q
Nested d (print i is q) = Nested d q
Nested d (test i e a b q) = Nested d a × (Nested d b × Nested d q)
Nested d (while i e a q) = Nested d a × Nested d q
Nested d (for i v e a q) = (d < NESTING) × (Nested (suc d) a × Nested d q)
Nested d (block a q) = Nested d a × Nested d q

-- a program at a level stands in no more FORs
abbrev NestedAt : ℕ → Program → Type 0
NestedAt d p = (c : ℕ) → c ≤ d → Nested c p

nested_steps : (ts : List Token) → Steps ts NestedAt
unfolding Nested
nested_steps ts = record {
  at_end = λ d c l. tt;
  at_assign = λ d i r u e k h c l. h c l;
  at_print = λ d i a b k h c l. h c l;
  at_test = λ d i e a b k f g h c l. (f c (omega arith), (g c (omega arith), h c l));
  at_while = λ d i e a k f h c l. (f c (omega arith), h c l);
  at_for = λ d i v e a k low f h c l. (omega arith, (f (suc c) (omega arith), h c l));
  at_block = λ d a k f h c l. (f c (omega arith), h c l);
}

-- a program that is read has FORs at most 32 deep
pub nested : (query : Text) (p : Program) → read_query query ≡ ok p → Nested 0 p
nested query p e = read_steps query p e NestedAt nested_steps 0 (omega arith)

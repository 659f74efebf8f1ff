-- Quantities stand where quantities are asked for, and tests where tests are; none has more than 8 summands nor a literal over 999,999;
-- so each part of a quantity of an accepted program is at most 8 × 999,999, whatever the tables hold.
use mathlib.Core.Path.{◌≡◌, refl, sym, ap, subst, ◌∙◌}
use mathlib.Core.Bool.{Bool, true, false, ◌||◌}
use mathlib.Core.List.{List, [], ◌∷◌, ◌++◌, map}
use Prim.Native.Nat.{ℕ, zero, suc, ◌+◌, ◌*◌, ◌≤◌, ◌<◌}
use native.Mathlib.Nat.{zero-add}
use native.Mathlib.Omega.{arith}
use lib.Dec.{ltb}
use lib.ListN.{length}
use borrow.Author.Tests.{ltb-false}
use Rattle.definition.specs.Text.{Text}
use Rattle.definition.specs.Limits.{Limits, LARGEST_LITERAL, QUERY_BYTES, TOKENS}
use Rattle.definition.specs.Token.{Terminal, number, Token, token_at, terminals, place_at, lexed, tokens, value, Sign}
use Rattle.definition.specs.Grammar.{Nonterminal, Tree, flat, row, rows_met, none_left, one_less}
use Rattle.definition.specs.Reader.{read_program}
use Rattle.definition.specs.Syntax.{Term, Expression, atom, truth, falsity, compare, matching, negation, conjunction, disjunction, implication, equivalence, exists, for_all, closure_of, compare_relations, literal, count_of, sum_of, ratio_of, compare_figures}
use Rattle.definition.specs.Syntax.{Item, rows, word, line_end, amount, Program, end, assign, print, test, while, for, block, Says, size, the, says}
use Rattle.definition.specs.Answer.{ok, refuse_if}
use Rattle.definition.specs.Accept.{Accepted, accept, read_query, lexed_answer, read_answer}
use Rattle.definition.proofs.AnswerLaws.{GrammarRows, good, grammar_rows}
use Rattle.definition.proofs.AcceptLaws.{ok_injective, bind_ok, then_ok, parts}
use Rattle.definition.proofs.TokenLaws.{Spelled, spelled_number, Tokens, spelled_at, lexed_tokens}
use Rattle.definition.proofs.ElementLaws.{All, head, tail, left, right, IsToken, all_tokens, lexed_ok, good_tree}
use Rattle.definition.proofs.NestingLaws.{Low, low_rest, low_left, low_right, low_tree}

-- what is asked for: a test, a sum of at most so many summands, a quantity
pub data Wanted : Type 0 where
  a_test : Wanted
  a_sum : ℕ → Wanted
  a_quantity : Wanted

pub data Shaped : Wanted → Expression → Type 0 where
  atom_test : {r : Token} {ps : List Term} → Shaped a_test (atom r ps)
  truth_test : {ps : List Term} → Shaped a_test (truth ps)
  falsity_test : {ps : List Term} → Shaped a_test (falsity ps)
  compare_test : {g : Sign} {p q : Term} → Shaped a_test (compare g p q)
  matching_test : {s : Token} {p : Term} → Shaped a_test (matching s p)
  negation_test : {e : Expression} → Shaped a_test e → Shaped a_test (negation e)
  conjunction_test : {a b : Expression} → Shaped a_test a → Shaped a_test b → Shaped a_test (conjunction a b)
  disjunction_test : {a b : Expression} → Shaped a_test a → Shaped a_test b → Shaped a_test (disjunction a b)
  implication_test : {a b : Expression} → Shaped a_test a → Shaped a_test b → Shaped a_test (implication a b)
  equivalence_test : {a b : Expression} → Shaped a_test a → Shaped a_test b → Shaped a_test (equivalence a b)
  exists_test : {x : Token} {e : Expression} → Shaped a_test e → Shaped a_test (exists x e)
  for_all_test : {x : Token} {e : Expression} → Shaped a_test e → Shaped a_test (for_all x e)
  closure_test : {e : Expression} → Shaped a_test e → Shaped a_test (closure_of e)
  relations_test : {g : Sign} {a b : Expression} → Shaped a_test a → Shaped a_test b → Shaped a_test (compare_relations g a b)
  figures_test : {g : Sign} {a b : Expression} → Shaped a_quantity a → Shaped a_quantity b → Shaped a_test (compare_figures g a b)
  literal_sum : {n : ℕ} {t : Token} → value t.text ≤ LARGEST_LITERAL → Shaped (a_sum (suc n)) (literal t)
  count_sum : {n : ℕ} {e : Expression} → Shaped a_test e → Shaped (a_sum (suc n)) (count_of e)
  more_sum : {n : ℕ} {a b : Expression} → Shaped (a_sum n) a → Shaped (a_sum 1) b → Shaped (a_sum (suc n)) (sum_of a b)
  whole_quantity : {e : Expression} → Shaped (a_sum 8) e → Shaped a_quantity e
  ratio_quantity : {a b : Expression} → Shaped (a_sum 8) a → Shaped (a_sum 8) b → Shaped a_quantity (ratio_of a b)

abbrev pub ShapedItem : Item → Type 0
ShapedItem (rows ps e) = Shaped a_test e
ShapedItem (word p) = Unit {0}
ShapedItem line_end = Unit {0}
ShapedItem (amount e) = Shaped a_quantity e

unfoldable pub ShapedItems : List Item → Type 0
ShapedItems [] = Unit {0}
ShapedItems (i ∷ is) = ShapedItem i × ShapedItems is

unfoldable pub ShapedProgram : Program → Type 0
ShapedProgram end = Unit {0}
ShapedProgram (assign i r ps e q) = Shaped a_test e × ShapedProgram q
ShapedProgram (print i is q) = ShapedItems is × ShapedProgram q
ShapedProgram (test i e a b q) = Shaped a_test e × (ShapedProgram a × (ShapedProgram b × ShapedProgram q))
ShapedProgram (while i e a q) = Shaped a_test e × (ShapedProgram a × ShapedProgram q)
ShapedProgram (for i v e a q) = Shaped a_test e × (ShapedProgram a × ShapedProgram q)
ShapedProgram (block a q) = ShapedProgram a × ShapedProgram q

-- a sum of at most m summands is one of at most n
sum_more : {m : ℕ} {e : Expression} → Shaped (a_sum m) e → (n : ℕ) → m ≤ n → Shaped (a_sum n) e
sum_more (literal_sum h) zero l = absurd (omega arith)
sum_more (literal_sum h) (suc n) l = literal_sum h
sum_more (count_sum h) zero l = absurd (omega arith)
sum_more (count_sum h) (suc n) l = count_sum h
sum_more (more_sum h k) zero l = absurd (omega arith)
sum_more (more_sum h k) (suc n) l = more_sum (sum_more h n (omega arith)) k

-- a token that meets no row is no excess
no_excess : (x : Bool) (d : ℕ) → row x d ≡ 0 → x ≡ false
unfolding row
no_excess true d h = absurd (omega arith)
no_excess false d h = refl

not_over : (b o : Bool) → (b || o) ≡ false → o ≡ false
not_over true o h = absurd (let z : ◌≡◌ {A = ℕ} 0 1 = cc in omega arith)
not_over false o h = h

small_literal : (t : Token) (o : Bool) (x : ℕ) → t.terminal ≡ number o x → Spelled t.terminal t.text → o ≡ false → value t.text ≤ LARGEST_LITERAL
small_literal t o x e h f = go (subst (λ c. Spelled c t.text) e h)
  where
    go : Spelled (number o x) t.text → value t.text ≤ LARGEST_LITERAL
    go (spelled_number g) = ltb-false LARGEST_LITERAL (value t.text) (sym g ∙ f)

-- the ninth summand's first token is one
no_ninth : (a : Tree (Nonterminal.Summand true)) (d : ℕ) → Low (rows_met a d) → ⊥
unfolding row
no_ninth (Tree.counted e) d l = let h = l.each 0 in omega arith
no_ninth (Tree.literal o x) d l = let h = l.each 0 in omega arith

some_left : (k : ℕ) (a : Tree (Nonterminal.Summand (none_left k))) (d : ℕ) → Low (rows_met a d) → 0 < k
some_left zero a d l = absurd (no_ninth a d l)
some_left (suc k) a d l = omega arith

less_one : (k : ℕ) → 0 < k → suc (one_less k) ≡ k
less_one zero h = absurd (omega arith)
less_one (suc k) h = refl

module _ (query : Text) (ts : List Token) (each : Tokens query 0 ts) where
  -- what each phrase says
  abbrev Claim : (n : Nonterminal) → Says n → Type 0
  Claim Nonterminal.Program p = ShapedProgram p
  Claim Nonterminal.MoreStatements f = (i : ℕ) → ShapedProgram (f i)
  Claim Nonterminal.Statement f = (i : ℕ) (k : Program) → ShapedProgram k → ShapedProgram (f i k)
  Claim Nonterminal.Block f = (i : ℕ) → ShapedProgram (f i)
  Claim Nonterminal.Else f = (i : ℕ) → ShapedProgram (f i)
  Claim Nonterminal.Lefts x = Unit {0}
  Claim Nonterminal.MoreLefts x = Unit {0}
  Claim Nonterminal.Left x = Unit {0}
  Claim Nonterminal.MoreItems is = ShapedItems is
  Claim Nonterminal.Item i = ShapedItem i
  Claim Nonterminal.Word x = Unit {0}
  Claim Nonterminal.Terms x = Unit {0}
  Claim Nonterminal.MoreTerms x = Unit {0}
  Claim Nonterminal.Term x = Unit {0}
  Claim Nonterminal.Expression e = Shaped a_test e
  Claim Nonterminal.Comparison f = (e : Expression) → Shaped a_test e → Shaped a_test (f e)
  Claim Nonterminal.Implication e = Shaped a_test e
  Claim Nonterminal.Consequent f = (e : Expression) → Shaped a_test e → Shaped a_test (f e)
  Claim Nonterminal.Disjunction e = Shaped a_test e
  Claim Nonterminal.MoreOr f = (e : Expression) → Shaped a_test e → Shaped a_test (f e)
  Claim Nonterminal.Conjunction e = Shaped a_test e
  Claim Nonterminal.MoreAnd f = (e : Expression) → Shaped a_test e → Shaped a_test (f e)
  Claim Nonterminal.Negation e = Shaped a_test e
  Claim Nonterminal.Primary e = Shaped a_test e
  Claim Nonterminal.Quantified f = (g : Token → Expression → Expression) → ((x : Token) (e : Expression) → Shaped a_test e → Shaped a_test (g x e)) → Shaped a_test (f g)
  Claim Nonterminal.Quantity e = Shaped a_quantity e
  Claim Nonterminal.Divisor f = (e : Expression) → Shaped (a_sum 8) e → Shaped a_quantity (f e)
  Claim (Nonterminal.Summand b) e = Shaped (a_sum 1) e
  Claim (Nonterminal.MoreSummands k) f = (n : ℕ) (e : Expression) → n + k ≡ 8 → Shaped (a_sum n) e → Shaped (a_sum 8) (f e)

  shaped : {n : Nonterminal} (t : Tree n) (d : ℕ) → All (IsToken ts) (flat t) → Low (rows_met t d) → Claim n (says ts t)
  unfolding says ShapedProgram ShapedItems
  shaped (Tree.program a b) d h l = (shaped a d (left (flat a) _ h) (low_left (rows_met a d) _ l)) 0 (says ts b (size a)) ((shaped b d (right (flat a) _ h) (low_right (rows_met a d) _ l)) (size a))
  shaped Tree.end_statements d h l = λ i. tt
  shaped (Tree.more_statements a b) d h l = λ i. (shaped a d (left (flat a) _ h) (low_left (rows_met a d) _ l)) i (says ts b (i + size a)) ((shaped b d (right (flat a) _ h) (low_right (rows_met a d) _ l)) (i + size a))
  shaped (Tree.assignment x u e) d h l = λ i k g. ((shaped e d (left (flat e) _ (tail (tail (right (flat u) _ (tail (tail h)))))) (low_left (rows_met e d) _ (low_rest (low_rest (low_right (rows_met u d) _ (low_rest (low_rest l))))))), g)
  shaped (Tree.assertion x u) d h l = λ i k g. (truth_test, g)
  shaped (Tree.conditional e b c) d h l = λ i k g. ((shaped e d (left (flat e) _ (tail h)) (low_left (rows_met e d) _ (low_rest l))), ((shaped b d (left (flat b) _ (right (flat e) _ (tail h))) (low_left (rows_met b d) _ (low_right (rows_met e d) _ (low_rest l)))) (suc i + size e), ((shaped c d (right (flat b) _ (right (flat e) _ (tail h))) (low_right (rows_met b d) _ (low_right (rows_met e d) _ (low_rest l)))) (suc i + size e + size b), g)))
  shaped (Tree.while_loop e b) d h l = λ i k g. ((shaped e d (left (flat e) _ (tail h)) (low_left (rows_met e d) _ (low_rest l))), ((shaped b d (right (flat e) _ (tail h)) (low_right (rows_met e d) _ (low_rest l))) (suc i + size e), g))
  shaped (Tree.for_loop x e b) d h l = λ i k g. ((shaped e d (left (flat e) _ (tail (tail (tail h)))) (low_left (rows_met e d) _ (low_rest (low_rest (low_rest l))))), ((shaped b d (right (flat e) _ (tail (tail (tail h)))) (low_right (rows_met e d) _ (low_rest (low_rest (low_rest l))))) (3 + i + size e), g))
  shaped (Tree.nested_block a b) d h l = λ i k g. ((shaped a (suc d) (left (flat a) _ (tail h)) (low_left (rows_met a (suc d)) _ (low_rest l))) (suc i) (says ts b (suc i + size a)) ((shaped b (suc d) (left (flat b) _ (right (flat a) _ (tail h))) (low_left (rows_met b (suc d)) _ (low_right (rows_met a (suc d)) _ (low_rest l)))) (suc i + size a)), g)
  shaped (Tree.print_statement a b) d h l = λ i k g. (((shaped a d (left (flat a) _ (tail h)) (low_left (rows_met a d) _ (low_rest l))), (shaped b d (left (flat b) _ (right (flat a) _ (tail h))) (low_left (rows_met b d) _ (low_right (rows_met a d) _ (low_rest l))))), g)
  shaped (Tree.block a b) d h l = λ i. (shaped a (suc d) (left (flat a) _ (tail h)) (low_left (rows_met a (suc d)) _ (low_rest l))) (suc i) (says ts b (suc i + size a)) ((shaped b (suc d) (left (flat b) _ (right (flat a) _ (tail h))) (low_left (rows_met b (suc d)) _ (low_right (rows_met a (suc d)) _ (low_rest l)))) (suc i + size a))
  shaped Tree.no_else d h l = λ i. tt
  shaped (Tree.else_block b) d h l = λ i. (shaped b d (tail h) (low_rest l)) (suc i)
  shaped Tree.no_lefts d h l = tt
  shaped (Tree.lefts a b) d h l = tt
  shaped Tree.end_lefts d h l = tt
  shaped (Tree.more_lefts a b) d h l = tt
  shaped (Tree.left_name x) d h l = tt
  shaped (Tree.left_string x) d h l = tt
  shaped (Tree.word_name x) d h l = tt
  shaped (Tree.word_string x) d h l = tt
  shaped Tree.no_terms d h l = tt
  shaped (Tree.terms a b) d h l = tt
  shaped Tree.end_terms d h l = tt
  shaped (Tree.more_terms a b) d h l = tt
  shaped (Tree.term_name x) d h l = tt
  shaped (Tree.term_string x) d h l = tt
  shaped Tree.term_any d h l = tt
  shaped (Tree.item_word w) d h l = tt
  shaped Tree.item_endl d h l = tt
  shaped Tree.end_items d h l = tt
  shaped (Tree.more_items a b) d h l = ((shaped a d (left (flat a) _ (tail h)) (low_left (rows_met a d) _ (low_rest l))), (shaped b d (right (flat a) _ (tail h)) (low_right (rows_met a d) _ (low_rest l))))
  shaped (Tree.item_expression e) d h l = (shaped e d h l)
  shaped (Tree.item_labelled w e) d h l = (shaped e d (tail (right (flat w) _ (tail h))) (low_rest (low_right (rows_met w d) _ (low_rest l))))
  shaped (Tree.item_quantity q) d h l = (shaped q d h l)
  shaped (Tree.expression a b) d h l = (shaped b d (right (flat a) _ h) (low_right (rows_met a d) _ l)) (says ts a) (shaped a d (left (flat a) _ h) (low_left (rows_met a d) _ l))
  shaped (Tree.implication a b) d h l = (shaped b d (right (flat a) _ h) (low_right (rows_met a d) _ l)) (says ts a) (shaped a d (left (flat a) _ h) (low_left (rows_met a d) _ l))
  shaped (Tree.disjunction a b) d h l = (shaped b d (right (flat a) _ h) (low_right (rows_met a d) _ l)) (says ts a) (shaped a d (left (flat a) _ h) (low_left (rows_met a d) _ l))
  shaped (Tree.conjunction a b) d h l = (shaped b d (right (flat a) _ h) (low_right (rows_met a d) _ l)) (says ts a) (shaped a d (left (flat a) _ h) (low_left (rows_met a d) _ l))
  shaped Tree.no_comparison d h l = λ e g. g
  shaped Tree.no_consequent d h l = λ e g. g
  shaped Tree.end_or d h l = λ e g. g
  shaped Tree.end_and d h l = λ e g. g
  shaped (Tree.comparison g a) d h l = λ e k. relations_test k (shaped a d (tail h) (low_rest l))
  shaped (Tree.figures a g b) d h l = figures_test (shaped a d (left (flat a) _ h) (low_left (rows_met a d) _ l)) (shaped b d (tail (right (flat a) _ h)) (low_rest (low_right (rows_met a d) _ l)))
  shaped (Tree.implies a) d h l = λ e k. implication_test k (shaped a d (tail h) (low_rest l))
  shaped (Tree.iff a) d h l = λ e k. equivalence_test k (shaped a d (tail h) (low_rest l))
  shaped (Tree.more_or a b) d h l = λ e k. (shaped b d (right (flat a) _ (tail h)) (low_right (rows_met a d) _ (low_rest l))) (disjunction e (says ts a)) (disjunction_test k (shaped a d (left (flat a) _ (tail h)) (low_left (rows_met a d) _ (low_rest l))))
  shaped (Tree.more_and a b) d h l = λ e k. (shaped b d (right (flat a) _ (tail h)) (low_right (rows_met a d) _ (low_rest l))) (conjunction e (says ts a)) (conjunction_test k (shaped a d (left (flat a) _ (tail h)) (low_left (rows_met a d) _ (low_rest l))))
  shaped (Tree.negation a) d h l = negation_test (shaped a (suc d) (tail h) (low_rest l))
  shaped (Tree.primary a) d h l = (shaped a d h l)
  shaped (Tree.group e) d h l = (shaped e (suc d) (left (flat e) _ (tail h)) (low_left (rows_met e (suc d)) _ (low_rest l)))
  shaped (Tree.ex x q) d h l = exists_test ((shaped q (suc d) (left (flat q) _ (tail (tail (tail (tail h))))) (low_left (rows_met q (suc d)) _ (low_rest (low_rest (low_rest (low_rest l)))))) exists (λ y e k. exists_test k))
  shaped (Tree.fa x q) d h l = for_all_test ((shaped q (suc d) (left (flat q) _ (tail (tail (tail (tail h))))) (low_left (rows_met q (suc d)) _ (low_rest (low_rest (low_rest (low_rest l)))))) for_all (λ y e k. for_all_test k))
  shaped (Tree.tc e) d h l = closure_test (shaped e (suc d) (left (flat e) _ (tail (tail h))) (low_left (rows_met e (suc d)) _ (low_rest (low_rest l))))
  shaped (Tree.tcfast e) d h l = closure_test (shaped e (suc d) (left (flat e) _ (tail (tail h))) (low_left (rows_met e (suc d)) _ (low_rest (low_rest l))))
  shaped (Tree.atom x u) d h l = atom_test
  shaped (Tree.true_atom u) d h l = truth_test
  shaped (Tree.false_atom u) d h l = falsity_test
  shaped (Tree.sign_before g a b) d h l = compare_test
  shaped (Tree.sign_between a g b) d h l = compare_test
  shaped (Tree.pattern_atom s a) d h l = matching_test
  shaped (Tree.one_more_attribute x q) d h l = λ f k. k (the ts x) (says ts q f) ((shaped q d (tail (tail h)) (low_rest (low_rest l))) f k)
  shaped (Tree.quantified_body e) d h l = λ f k. (shaped e d h l)
  shaped (Tree.quantity a m v) d h l = (shaped v d (right (flat m) _ (right (flat a) _ h)) (low_right (rows_met m d) _ (low_right (rows_met a d) _ l))) (says ts m (says ts a)) ((shaped m d (left (flat m) _ (right (flat a) _ h)) (low_left (rows_met m d) _ (low_right (rows_met a d) _ l))) 1 (says ts a) refl (shaped a d (left (flat a) _ h) (low_left (rows_met a d) _ l)))
  shaped Tree.no_divisor d h l = λ e k. whole_quantity k
  shaped (Tree.divisor a m) d h l = λ e k. ratio_quantity k ((shaped m d (right (flat a) _ (tail h)) (low_right (rows_met a d) _ (low_rest l))) 1 (says ts a) refl (shaped a d (left (flat a) _ (tail h)) (low_left (rows_met a d) _ (low_rest l))))
  shaped (Tree.end_summands {k}) d h l = λ n e q g. sum_more g 8 (omega arith)
  shaped (Tree.more_summands {k} a m) d h l =
      let low = some_left k a d (low_left (rows_met a d) _ (low_rest l)) in
      λ n e q g. (shaped m d (right (flat a) _ (tail h)) (low_right (rows_met a d) _ (low_rest l))) (suc n) (sum_of e (says ts a)) (omega (arith, less_one k low)) (more_sum g (shaped a d (left (flat a) _ (tail h)) (low_left (rows_met a d) _ (low_rest l))))
  shaped (Tree.counted e) d h l = count_sum (shaped e (suc d) (left (flat e) _ (tail (tail h))) (low_left (rows_met e (suc d)) _ (low_rest (low_rest l))))
  shaped (Tree.literal {b} o x) d h l = literal_sum (small_literal (token_at ts x) o x (head h) (spelled_at each x) (not_over b o (no_excess (b || o) d (l.each 0))))

-- so of a program that is read
pub read_shaped : (query : Text) (p : Program) → read_query query ≡ ok p → ShapedProgram p
unfolding read_query
read_shaped query p e =
    let e₁ = then_ok (refuse_if (ltb QUERY_BYTES (length query)) 8 QUERY_BYTES) _ p e in
    let (ts, q, e₂) = bind_ok (lexed_answer (lexed query)) _ p e₁ in
    let e₃ = then_ok (refuse_if (ltb TOKENS (length ts)) 13 (place_at (length query) ts TOKENS)) _ p e₂ in
    let (t, q₂, e₄) = bind_ok (read_answer (length query) ts (read_program (terminals ts))) _ p e₃ in
    let is_tokens : lexed query ≡ tokens ts = lexed_ok (lexed query) ts q in
    let each : Tokens query 0 ts = lexed_tokens query ts is_tokens in
    let rs : GrammarRows (length query) ts (ok t) = subst (GrammarRows (length query) ts) q₂ (grammar_rows (length query) ts) in
    let all : All (IsToken ts) (flat t) = subst (All (IsToken ts)) (sym (good_tree rs).program.text) (all_tokens query ts 0 ts each (λ j. ap (token_at ts) (zero-add j))) in
    subst ShapedProgram (ok_injective e₄) (shaped query ts each t 0 all (low_tree rs))

pub accepted_shaped : (limits : Limits) (facts query : Text) (w : Accepted) → accept limits facts query ≡ ok w → ShapedProgram w.program
accepted_shaped limits facts query w e = read_shaped query w.program (parts limits facts query w e).query_read

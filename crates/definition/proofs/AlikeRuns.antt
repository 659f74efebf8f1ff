-- Accepted texts that differ in places alone have the same run: the same words needed and, after any number of steps, the same tables, output,
-- steps and tasks left.
use mathlib.Core.Path.{◌≡◌, refl, sym, ap, ap₂, fun_ext, ◌∙◌}
use mathlib.Core.Bool.{Bool, ◌||◌, not}
use mathlib.Core.List.{List, [], ◌∷◌, map}
use Prim.Native.Nat.{ℕ, zero, suc, ◌+◌}
use lib.ListN.{length}
use Rattle.definition.specs.Text.{Text, keep, some_of, all_of, below}
use Rattle.definition.specs.Syntax.{Term, name, string, anything, Expression, atom, truth, falsity, compare, matching, negation, conjunction, disjunction, implication, equivalence, exists, for_all, closure_of, compare_relations, literal, count_of, sum_of, ratio_of, compare_figures}
use Rattle.definition.specs.Syntax.{Program, Item, rows, word, line_end, amount}
use Rattle.definition.specs.Facts.{Relation, Fact}
use Rattle.definition.specs.Names.{free, join}
use Rattle.definition.specs.Tables.{Tuple, holds, table, tuples, closure}
use Rattle.definition.specs.Accept.{Accepted, relation_words, largest_words, scratch_words, words_needed}
use Rattle.definition.specs.Meaning.{Tables, Environment, bind, bind_all, table_of, compares_relations, whole, share, top, compares_figures, choices, readings, mean, figure, answers}
use Rattle.definition.specs.Assignment.{loaded, columns, fits, differs, assigned, assign_tables, element_text}
use Rattle.definition.specs.Print.{figure_text, is_quoted, in_quotes, shown, bare, item_text, print_text}
use Rattle.definition.specs.Run.{Task, assigning, printing, testing, repeating, ranging, taking, step, next_of, start, point}
use Rattle.definition.proofs.ListLaws.{Each, each_none, each_one, each_some}
use Rattle.definition.proofs.AlikeLaws.{SameFact, SameRelation, SameAccepted, same_loaded}

table_same : (r : Text) {qs rs : List Relation} → Each SameRelation qs rs → (ts : Tables) → table_of r qs ts ≡ table_of r rs ts
unfolding table_of
table_same r each_none ts = refl
table_same r (each_one h hs) [] = refl
table_same r (each_one h hs) (t ∷ ts) = rw (h.name, table_same r hs ts)

words_same : (u : ℕ) {qs rs : List Relation} → Each SameRelation qs rs → (relation_words u qs ≡ relation_words u rs) × (largest_words u qs ≡ largest_words u rs)
unfolding relation_words largest_words
words_same u each_none = (refl, refl)
words_same u (each_one h hs) = let ih = words_same u hs in (rw (h.arity, ih.0), rw (h.arity, ih.1))

-- one universe, one program; relations and facts that differ in places
module _ (universe : List Text) (variables : Text → Bool) (program : Program) {qs rs : List Relation} {fs gs : List Fact} (relations : Each SameRelation qs rs) (facts : Each SameFact fs gs) where
  abbrev w : Accepted
  w = record { universe = universe; relations = qs; variables = variables; facts = fs; program = program }

  abbrev v : Accepted
  v = record { universe = universe; relations = rs; variables = variables; facts = gs; program = program }

  choices_same : (env : Environment) (p : Term) → choices w env p ≡ choices v env p
  unfolding choices
  choices_same env (name t) = refl
  choices_same env (string t) = refl
  choices_same env anything = refl

  readings_same : (env : Environment) (ps : List Term) → readings w env ps ≡ readings v env ps
  unfolding readings
  readings_same env [] = refl
  readings_same env (p ∷ ps) = rw (choices_same env p, readings_same env ps)

  mutual
    unfolding mean

    mean_same : (ts : Tables) (env : Environment) (e : Expression) → mean w ts env e ≡ mean v ts env e
    mean_same ts env (atom r ps) = rw (table_same r.text relations ts, readings_same env ps)
    mean_same ts env (truth ps) = rw (readings_same env ps)
    mean_same ts env (falsity ps) = refl
    mean_same ts env (compare g p q) = rw (readings_same env (p ∷ q ∷ []))
    mean_same ts env (matching s p) = rw (choices_same env p)
    mean_same ts env (negation e) = rw (mean_same ts env e)
    mean_same ts env (conjunction a b) = rw (mean_same ts env a, mean_same ts env b)
    mean_same ts env (disjunction a b) = rw (mean_same ts env a, mean_same ts env b)
    mean_same ts env (implication a b) = rw (mean_same ts env a, mean_same ts env b)
    mean_same ts env (equivalence a b) = rw (mean_same ts env a, mean_same ts env b)
    mean_same ts env (exists x e) = ap (λ (f : ℕ → Bool). some_of f (below (length universe))) (fun_ext (λ a. mean_same ts (bind x.text a env) e))
    mean_same ts env (for_all x e) = ap (λ (f : ℕ → Bool). all_of f (below (length universe))) (fun_ext (λ a. mean_same ts (bind x.text a env) e))
    mean_same ts env (closure_of e) =
        let n = length universe in
        let xs = free variables e in
        ap (λ (f : Tuple → Bool). holds n (closure n (table n 2 f)) (map env xs)) (fun_ext (λ t. mean_same ts (bind_all xs t env) e))
    mean_same ts env (compare_relations g a b) =
        let xs = join (free variables a) (free variables b) in
        let us = tuples (length universe) (length xs) in
        ap₂ (λ (f h : Tuple → Bool). compares_relations g (all_of (λ t. not (f t) || h t) us) (all_of (λ t. not (h t) || f t) us))
        (fun_ext (λ t. mean_same ts (bind_all xs t env) a)) (fun_ext (λ t. mean_same ts (bind_all xs t env) b))
    mean_same ts env (compare_figures g a b) = ap₂ (compares_figures g) (figure_same ts env a) (figure_same ts env b)
    mean_same ts env (literal t) = refl
    mean_same ts env (count_of e) = refl
    mean_same ts env (sum_of a b) = refl
    mean_same ts env (ratio_of a b) = refl

    figure_same : (ts : Tables) (env : Environment) (e : Expression) → figure w ts env e ≡ figure v ts env e
    figure_same ts env (literal t) = refl
    figure_same ts env (count_of e) =
        let xs = free variables e in
        ap (λ (f : Tuple → Bool). whole (length (keep f (tuples (length universe) (length xs))))) (fun_ext (λ t. mean_same ts (bind_all xs t env) e))
    figure_same ts env (sum_of a b) = ap₂ (λ p q. whole (top p + top q)) (figure_same ts env a) (figure_same ts env b)
    figure_same ts env (ratio_of a b) = ap₂ (λ p q. share (top p) (top q)) (figure_same ts env a) (figure_same ts env b)
    figure_same ts env (atom r ps) = refl
    figure_same ts env (truth ps) = refl
    figure_same ts env (falsity ps) = refl
    figure_same ts env (compare g p q) = refl
    figure_same ts env (matching s p) = refl
    figure_same ts env (negation e) = refl
    figure_same ts env (conjunction a b) = refl
    figure_same ts env (disjunction a b) = refl
    figure_same ts env (implication a b) = refl
    figure_same ts env (equivalence a b) = refl
    figure_same ts env (exists x e) = refl
    figure_same ts env (for_all x e) = refl
    figure_same ts env (closure_of e) = refl
    figure_same ts env (compare_relations g a b) = refl
    figure_same ts env (compare_figures g a b) = refl

  answers_same : (ts : Tables) (env : Environment) (e : Expression) → answers w ts env e ≡ answers v ts env e
  unfolding answers
  answers_same ts env e =
      let xs = free variables e in
      ap (λ (f : Tuple → Bool). keep f (tuples (length universe) (length xs))) (fun_ext (λ t. mean_same ts (bind_all xs t env) e))

  -- assignments
  fits_same : (env : Environment) (ps : List Term) (t : Tuple) → fits w env ps t ≡ fits v env ps t
  unfolding fits
  fits_same env [] t = refl
  fits_same env (p ∷ ps) [] = refl
  fits_same env (p ∷ ps) (a ∷ t) = rw (choices_same env p, fits_same env ps t)

  differs_same : (ps : List Term) (t : Tuple) → differs w ps t ≡ differs v ps t
  unfolding differs
  differs_same [] t = refl
  differs_same (name x ∷ ps) [] = refl
  differs_same (string s ∷ ps) [] = refl
  differs_same (anything ∷ ps) [] = refl
  differs_same (name x ∷ ps) (a ∷ t) = differs_same ps t
  differs_same (string s ∷ ps) (a ∷ t) = rw (differs_same ps t)
  differs_same (anything ∷ ps) (a ∷ t) = differs_same ps t

  assigned_same : (ts : Tables) (env : Environment) (ps : List Term) (e : Expression) (old : List ℕ) (t : Tuple) → assigned w ts env ps e old t ≡ assigned v ts env ps e old t
  unfolding assigned
  assigned_same ts env ps e old t =
      let env' = columns ps t env in
      let f : fits w env' ps t ≡ fits v env' ps t = fits_same env' ps t in
      let m : mean w ts env' e ≡ mean v ts env' e = mean_same ts env' e in
      let d : differs w ps t ≡ differs v ps t = differs_same ps t in
      cc

  assign_same : (ts : Tables) (env : Environment) (r : Text) (ps : List Term) (e : Expression) {xs ys : List Relation} → Each SameRelation xs ys → (us : Tables)
      → assign_tables w ts env r ps e xs us ≡ assign_tables v ts env r ps e ys us
  unfolding assign_tables
  assign_same ts env r ps e each_none us = refl
  assign_same ts env r ps e (each_one h hs) [] = refl
  assign_same ts env r ps e (each_one h hs) (u ∷ us) = rw (h.name, h.arity, fun_ext (assigned_same ts env ps e u), assign_same ts env r ps e hs us)

  -- prints
  quoted_same : (t : Text) → is_quoted w t ≡ is_quoted v t
  unfolding is_quoted
  quoted_same t = each_some _ _ (λ f g h. each_some _ _ (λ e d k. rw (k.value, k.quoted)) h.elements) facts

  shown_same : (a : ℕ) → shown w a ≡ shown v a
  unfolding shown in_quotes
  shown_same a = rw (quoted_same (element_text w a))

  bare_same : (env : Environment) (p : Term) → bare w env p ≡ bare v env p
  unfolding bare
  bare_same env (name t) = refl
  bare_same env (string t) = refl
  bare_same env anything = refl

  item_same : (ts : Tables) (env : Environment) (i : Item) → item_text w ts env i ≡ item_text v ts env i
  unfolding item_text
  item_same ts env (rows ps e) = rw (fun_ext (bare_same env), fun_ext shown_same, answers_same ts env e)
  item_same ts env (word p) = bare_same env p
  item_same ts env line_end = refl
  item_same ts env (amount e) = ap figure_text (figure_same ts env e)

  print_same : (ts : Tables) (env : Environment) (is : List Item) → print_text w ts env is ≡ print_text v ts env is
  unfolding print_text
  print_same ts env is = rw (fun_ext (item_same ts env))

  -- steps
  step_same : (t : Task) (ts : Tables) (out : Text) (n : ℕ) (k : List Task) → step w t ts out n k ≡ step v t ts out n k
  unfolding step
  step_same (assigning env r ps e) ts out n k = rw (assign_same ts env r.text ps e relations ts)
  step_same (printing env is) ts out n k = rw (print_same ts env is)
  step_same (testing env e a b) ts out n k = rw (mean_same ts env e)
  step_same (repeating env e a) ts out n k = rw (mean_same ts env e)
  step_same (ranging env x e a) ts out n k = rw (answers_same ts env e)
  step_same (taking env x a b) ts out n k = refl

  next_same : (ts : Tables) (out : Text) (n : ℕ) (k : List Task) → next_of w ts out n k ≡ next_of v ts out n k
  next_same ts out n [] = refl
  next_same ts out n (t ∷ k) = step_same t ts out n k

  points_same : loaded w ≡ loaded v → (n : ℕ) → point w n ≡ point v n
  unfolding point start
  points_same e zero = rw e
  points_same e (suc n) = rw (points_same e n) (let s = point v n in next_same s.tables s.output s.steps s.todo)

-- what a run shows of two accepted texts
pub record SameRun (w v : Accepted) : Type 0 where
  pub universe : w.universe ≡ v.universe
  pub tables : loaded w ≡ loaded v
  pub words : words_needed w ≡ words_needed v
  pub points : (n : ℕ) → point w n ≡ point v n

pub same_run : (w v : Accepted) → SameAccepted w v → SameRun w v
unfolding words_needed scratch_words
same_run w v h =
    record {
      universe = h.universe;
      tables = same_loaded w v h;
      words = let s = words_same (length v.universe) h.relations in rw (h.universe, s.0, s.1);
      points = λ n. ap (λ (x : Accepted). point x n) moved ∙ points_same v.universe v.variables v.program h.relations h.facts (ap loaded (sym moved) ∙ same_loaded w v h) n;
    }
  where
    moved : w ≡ record { universe = v.universe; relations = w.relations; variables = v.variables; facts = w.facts; program = v.program }
    moved =
        ap (λ (us : List Text). record { universe = us; relations = w.relations; variables = w.variables; facts = w.facts; program = w.program }) h.universe
        ∙ ap (λ (vs : Text → Bool). record { universe = v.universe; relations = w.relations; variables = vs; facts = w.facts; program = w.program }) h.variables
        ∙ ap (λ (p : Program). record { universe = v.universe; relations = w.relations; variables = v.variables; facts = w.facts; program = p }) h.program

-- The manual's Warshall program of section 2.3, as the definition runs it:
--
--     Result(x,y) := R(x,y);
--     Node(x) := Result(x,_) & Result(_,x);
--     FOR node IN Node(x) {
--         Result(x,y) := Result(x,y) | (Result(x,node) & Result(node,y));
--     }
--
-- The closure is to be worked "in the order of the Warshall program in section 2.3: node by node, ascending, adding arcs through that node".
-- After each node Result has the very pairs of the closure's working table, and at the end those of TC(R(x,y)).
use mathlib.Core.Path.{◌≡◌, refl, sym, ap, ap₂, subst, ◌∙◌}
use mathlib.Core.Logic.{◌↔◌}
use mathlib.Core.Bool.{Bool, true, false, ◌&&◌, ◌||◌, cond, or-false}
use mathlib.Core.List.{List, [], ◌∷◌, ◌++◌, map}
use Prim.Native.Nat.{ℕ, zero, suc, ◌+◌, ◌-◌, ◌*◌, ◌<◌, ◌≤◌}
use native.Mathlib.Nat.{add-zero, zero-add, add-suc, suc-add, add_assoc, le_of_suc-le-suc}
use native.Mathlib.Omega.{arith}
use lib.Dec.{T, eqb, eqb_refl}
use lib.ListN.{length, take, drop, length-map, length-append}
use lib.Seq.{take-length, drop-length, take-append_seam}
use Rattle.definition.specs.Text.{Text, same, member, some_of, keep, from, below}
use Rattle.definition.specs.Token.{Token}
use Rattle.definition.specs.Syntax.{Term, name, anything, Expression, atom, conjunction, disjunction, closure_of, Program, end, assign, for}
use Rattle.definition.specs.Facts.{Relation, arities}
use Rattle.definition.specs.Names.{free}
use Rattle.definition.specs.Tables.{Tuple, holds, table, through, through_all, closure}
use Rattle.definition.specs.Accept.{Accepted, elements}
use Rattle.definition.specs.Meaning.{Tables, Environment, bind, bind_all, table_of, choices, readings, mean, answers}
use Rattle.definition.specs.Assignment.{columns, fits, differs, assigned, assign_tables}
use Rattle.definition.specs.Run.{Task, taking, tasks, each, State, state, step, next, point}
use Rattle.definition.proofs.BoolLaws.{is_true, contradiction}
use Rattle.definition.proofs.ListLaws.{Every, every_none, every_one, every_head, every_tail, every_keep, every_weaken, some_map, some_gather, some_same, keep_same, from_add}
use Rattle.definition.proofs.DistinctLaws.{Distinct, distinct_one, distinct_none, distinct_head, distinct_tail, absent}
use Rattle.definition.proofs.MeaningLaws.{same_itself, same_equal, same_sym}
use Rattle.definition.proofs.TableLaws.{Below, holds_table}
use Rattle.definition.proofs.TupleLaws.{keep_append, keep_singles}
use Rattle.definition.proofs.Chains.{Chain}
use Rattle.definition.proofs.ClosureLaws.{pairs, through_pairs}
use Rattle.definition.proofs.NodeLaws.{is_node, Same, same_through, nodes_alone, nodes_chains}
use Rattle.definition.proofs.RunLaws.{Shaped, none, one, point_suc, assign_shaped}
use Rattle.definition.proofs.LoadLaws.{numbers_below}
use Rattle.definition.proofs.ReadBack.{texts, NoLoopVariables, own_attributes, bound, own_readings, own_mean, own_answers}

-- The program, over its names; v is the loop variable "node". Its tokens are numbered from 0 in the order of the text, and o has the place
-- of each, so that every name stands at its own.
abbrev token : (ℕ → Token) → ℕ → Text → Token
token o i t = record { terminal = (o i).terminal; text = t; at = (o i).at }

-- "Result(x,y) | (Result(x,node) & Result(node,y))"
abbrev joined : (o : ℕ → Token) (result x y v : Text) → Expression
joined o result x y v =
    disjunction (atom (token o 48 result) (name (token o 50 x) ∷ name (token o 52 y) ∷ []))
    (conjunction (atom (token o 56 result) (name (token o 58 x) ∷ name (token o 60 v) ∷ [])) (atom (token o 63 result) (name (token o 65 v) ∷ name (token o 67 y) ∷ [])))

-- the loop's block
abbrev adding : (o : ℕ → Token) (result x y v : Text) → Program
adding o result x y v = assign (o 41).at (token o 41 result) (name (token o 43 x) ∷ name (token o 45 y) ∷ []) (joined o result x y v) end

-- "Result(x,_) & Result(_,x)"
abbrev inner : (o : ℕ → Token) (result x : Text) → Expression
inner o result x = conjunction (atom (token o 19 result) (name (token o 21 x) ∷ anything ∷ [])) (atom (token o 26 result) (anything ∷ name (token o 30 x) ∷ []))

-- "R(x,y)"
abbrev pub given : (o : ℕ → Token) (r x y : Text) → Expression
given o r x y = atom (token o 7 r) (name (token o 9 x) ∷ name (token o 11 y) ∷ [])

-- the whole, before the statements that follow
abbrev pub program : (o : ℕ → Token) (r result nodes x y v : Text) → Program → Program
program o r result nodes x y v rest =
    assign (o 0).at (token o 0 result) (name (token o 2 x) ∷ name (token o 4 y) ∷ []) (given o r x y)
    (assign (o 14).at (token o 14 nodes) (name (token o 16 x) ∷ []) (inner o result x)
    (for (o 33).at (token o 34 v) (atom (token o 36 nodes) (name (token o 38 x) ∷ [])) (adding o result x y v) rest))

-- what is asked of the names; R may be any relation, also Result or Node
pub record Written (w : Accepted) (result nodes x y v : Text) : Type 0 where
  -- x, y and node are three names
  pub distinct : Distinct (x ∷ y ∷ v ∷ [])
  -- Result and Node are two
  pub apart : same result nodes ≡ false
  -- Result has two columns
  pub two_columns : arities result w.relations ≡ 2 ∷ []
  -- Node has one
  pub one_column : arities nodes w.relations ≡ 1 ∷ []
  -- x is no loop variable
  pub attribute : w.variables x ≡ false

-- the point n steps after another
unfoldable pub after : Accepted → ℕ → State → State
after w zero s = s
after w (suc n) s = after w n (next w s)

after_more : (w : Accepted) (i m : ℕ) (s : State) → after w (i + m) s ≡ after w m (after w i s)
unfolding after
after_more w zero m s = ap (λ j. after w j s) (zero-add m)
after_more w (suc i) m s = ap (λ j. after w j s) (suc-add i m) ∙ after_more w i m (next w s)

-- from a point of the run it is a later one
pub after_point : (w : Accepted) (m n : ℕ) → after w m (point w n) ≡ point w (m + n)
unfolding after
after_point w zero n = ap (point w) (sym (zero-add n))
after_point w (suc m) n = ap (after w m) (sym (point_suc w n)) ∙ after_point w m (suc n) ∙ ap (point w) (add-suc m n ∙ sym (suc-add m n))

-- a point: k is left to do, out is written, n steps are taken, and Result has exactly the pairs of the table ws
pub record Stage (w : Accepted) (result : Text) (s : State) (k : List Task) (out : Text) (n : ℕ) (ws : List ℕ) : Type 0 where
  pub todo : s.todo ≡ k
  pub output : s.output ≡ out
  pub steps : s.steps ≡ n
  pub shaped : Shaped (elements w) w.relations s.tables
  pub same_pairs : Same (elements w) (table_of result w.relations s.tables) ws

-- Tables that hold the same pairs have the same nodes and the same closure.
module _ (u : ℕ) where
  elements_below : Every (λ c. c < u) (below u)
  elements_below = numbers_below u 0 u (omega arith)

  same_node : (vs ws : List ℕ) → Same u vs ws → (c : ℕ) → c < u → is_node u vs c ≡ is_node u ws c
  unfolding is_node
  same_node vs ws e c h =
      ap₂ ◌&&◌ (some_same (pairs u vs c) (pairs u ws c) (every_weaken (λ b q. e c b h q) elements_below))
      (some_same (λ a. pairs u vs a c) (λ a. pairs u ws a c) (every_weaken (λ a p. e a c p h) elements_below))

  same_through_all : {cs : List ℕ} → Every (λ c. c < u) cs → (vs ws : List ℕ) → Same u vs ws → Same u (through_all u cs vs) (through_all u cs ws)
  unfolding through_all
  same_through_all every_none vs ws e = e
  same_through_all (every_one {a = c} h hs) vs ws e = same_through_all hs (through u c vs) (through u c ws) (same_through u c vs ws h e)

  same_closure : (vs ws : List ℕ) → Same u vs ws → Same u (closure u vs) (closure u ws)
  unfolding closure
  same_closure vs ws e = same_through_all elements_below vs ws e

-- the numbers below c that pass a test come first among those below u
kept_first : (p : ℕ → Bool) (c u : ℕ) → c ≤ u → (cs : List ℕ) × (keep p (below u) ≡ keep p (below c) ++ cs)
kept_first p c u h =
    let e : u ≡ c + (u - c) = omega arith in
    (keep p (from (u - c) (0 + c)), ap (λ n. keep p (below n)) e ∙ ap (keep p) (from_add c (u - c) 0) ∙ keep_append p (below c) (from (u - c) (0 + c)))

-- Assignments to different attributes: R(x,..) := e gives R the tuples that make e true, and leaves the other relations.
columns_names : (xs : List Token) (t : Tuple) (env : Environment) → length t ≡ length xs → columns (map name xs) t env ≡ bind_all (texts xs) t env
unfolding columns bind_all
columns_names [] t env e = refl
columns_names (x ∷ xs) [] env e = absurd (omega arith)
columns_names (x ∷ xs) (a ∷ t) env e = ap (bind x.text a) (columns_names xs t env (omega arith))

module _ (w : Accepted) where
  fits_names : (env : Environment) (xs : List Token) → fits w env (map name xs) (map env (texts xs)) ≡ true
  unfolding fits choices some_of
  fits_names env [] = refl
  fits_names env (x ∷ xs) = rw (is_true (eqb (env x.text) (env x.text)) (eqb_refl (env x.text)), fits_names env xs)

  differs_names : (xs : List Token) (t : Tuple) → differs w (map name xs) t ≡ false
  unfolding differs
  differs_names [] t = refl
  differs_names (x ∷ xs) [] = refl
  differs_names (x ∷ xs) (a ∷ t) = differs_names xs t

  assigned_names : (ts : Tables) (env : Environment) (xs : List Token) (e : Expression) (old : List ℕ) (t : Tuple) → Distinct (texts xs) → length t ≡ length xs
      → assigned w ts env (map name xs) e old t ≡ mean w ts (bind_all (texts xs) t env) e
  unfolding assigned
  assigned_names ts env xs e old t d h =
      rw (columns_names xs t env h, fits_bound, differs_names xs t) (or-false (mean w ts (bind_all (texts xs) t env) e))
    where
      fits_bound : fits w (bind_all (texts xs) t env) (map name xs) t ≡ true
      fits_bound = subst (λ s. fits w (bind_all (texts xs) t env) (map name xs) s ≡ true) (bound (texts xs) t env d (h ∙ sym (length-map xs (λ x. x.text)))) (fits_names (bind_all (texts xs) t env) xs)

  -- the table of the relation that is assigned, and of another
  assigned_table : (ts : Tables) (env : Environment) (r : Text) (ps : List Term) (e : Expression) (n : ℕ) {u : ℕ} {qs : List Relation} {us : Tables} → Shaped u qs us → arities r qs ≡ n ∷ []
      → table_of r qs (assign_tables w ts env r ps e qs us) ≡ table (elements w) n (assigned w ts env ps e (table_of r qs us))
  unfolding table_of assign_tables arities
  assigned_table ts env r ps e n none h = let z : ◌≡◌ {A = ℕ} 0 1 = cc in absurd (omega arith)
  assigned_table ts env r ps e n (one {q} {qs} {t} {ts = us} l s) h = go (same r q.name) refl h (assigned_table ts env r ps e n s)
    where
      new : ℕ → List ℕ → List ℕ
      new m old = table (elements w) m (assigned w ts env ps e old)

      go : (b : Bool) → same r q.name ≡ b → cond b (q.arity ∷ []) (arities r qs) ≡ n ∷ []
          → (arities r qs ≡ n ∷ [] → table_of r qs (assign_tables w ts env r ps e qs us) ≡ new n (table_of r qs us))
          → table_of r (q ∷ qs) (cond b (new q.arity t ∷ us) (t ∷ assign_tables w ts env r ps e qs us)) ≡ new n (cond b t (table_of r qs us))
      go true c h ih = let m : q.arity ≡ n = cc in rw (c, m)
      go false c h ih = rw c (ih h)

  unassigned_table : (ts : Tables) (env : Environment) (r s : Text) (ps : List Term) (e : Expression) → same r s ≡ false → (qs : List Relation) (us : Tables)
      → table_of s qs (assign_tables w ts env r ps e qs us) ≡ table_of s qs us
  unfolding table_of assign_tables
  unassigned_table ts env r s ps e d [] us = refl
  unassigned_table ts env r s ps e d (q ∷ qs) [] = refl
  unassigned_table ts env r s ps e d (q ∷ qs) (u ∷ us) = go (same r q.name) refl (same s q.name) refl (unassigned_table ts env r s ps e d qs us)
    where
      new : List ℕ
      new = table (elements w) q.arity (assigned w ts env ps e u)

      go : (b : Bool) → same r q.name ≡ b → (c : Bool) → same s q.name ≡ c → table_of s qs (assign_tables w ts env r ps e qs us) ≡ table_of s qs us
          → table_of s (q ∷ qs) (cond b (new ∷ us) (u ∷ assign_tables w ts env r ps e qs us)) ≡ cond c u (table_of s qs us)
      go true b true c ih = contradiction (same r s) (ap₂ same (same_equal r q.name b) (same_equal s q.name c) ∙ same_itself q.name) d
      go true b false c ih = rw c
      go false b true c ih = rw c
      go false b false c ih = rw c ih

  assigned_holds : (ts : Tables) (env : Environment) (r : Text) (xs : List Token) (e : Expression) (t : Tuple) → Shaped (elements w) w.relations ts → arities r w.relations ≡ length xs ∷ []
      → Distinct (texts xs) → Below (elements w) t → length t ≡ length xs
      → holds (elements w) (table_of r w.relations (assign_tables w ts env r (map name xs) e w.relations ts)) t ≡ mean w ts (bind_all (texts xs) t env) e
  assigned_holds ts env r xs e t s h d b l =
      rw (assigned_table ts env r (map name xs) e (length xs) s h, ← l)
      (holds_table (elements w) t (assigned w ts env (map name xs) e (table_of r w.relations ts)) b ∙ assigned_names ts env xs e (table_of r w.relations ts) t d l)

  -- What atoms mean: R(x,..) at what its names stand for; R(x,_) and R(_,x), "each "_" is its own EX"; TC(R(x,y)).
  names_mean : (ts : Tables) (env : Environment) (r : Token) (xs : List Token) → mean w ts env (atom r (map name xs)) ≡ holds (elements w) (table_of r.text w.relations ts) (map env (texts xs))
  unfolding mean some_of
  names_mean ts env r xs = rw (own_readings w env xs) (or-false (holds (elements w) (table_of r.text w.relations ts) (map env (texts xs))))

  some_reading : (p : Tuple → Bool) (env : Environment) (q : Term) (ps : List Term)
      → some_of p (readings w env (q ∷ ps)) ≡ some_of (λ a. some_of (λ t. p (a ∷ t)) (readings w env ps)) (choices w env q)
  unfolding readings
  some_reading p env q ps = some_gather p (λ a. map (λ t. a ∷ t) (readings w env ps)) (choices w env q) ∙ simp some_map

  first_mean : (ts : Tables) (env : Environment) (r x : Token)
      → mean w ts env (atom r (name x ∷ anything ∷ [])) ≡ some_of (pairs (elements w) (table_of r.text w.relations ts) (env x.text)) (below (elements w))
  unfolding mean
  first_mean ts env r x = simp some_reading (unfold readings choices some_of in simp or-false)

  second_mean : (ts : Tables) (env : Environment) (r x : Token)
      → mean w ts env (atom r (anything ∷ name x ∷ [])) ≡ some_of (λ a. pairs (elements w) (table_of r.text w.relations ts) a (env x.text)) (below (elements w))
  unfolding mean
  second_mean ts env r x = simp some_reading (unfold readings choices some_of in simp or-false)

  closure_mean : (ts : Tables) (env : Environment) (r x y : Token) (a b : ℕ) → Distinct (texts (x ∷ y ∷ [])) → NoLoopVariables w.variables (x ∷ y ∷ []) → a < elements w → b < elements w
      → mean w ts (bind_all (x.text ∷ y.text ∷ []) (a ∷ b ∷ []) env) (closure_of (atom r (name x ∷ name y ∷ []))) ≡ pairs (elements w) (closure (elements w) (table_of r.text w.relations ts)) a b
  unfolding mean free
  closure_mean ts env r x y a b d h p q =
      let v = bind_all (x.text ∷ y.text ∷ []) (a ∷ b ∷ []) env in
      let f : Tuple → Bool = λ t. mean w ts (bind_all (x.text ∷ y.text ∷ []) t v) (atom r (name x ∷ name y ∷ [])) in
      rw (own_attributes w.variables (x ∷ y ∷ []) d h, bound (x.text ∷ y.text ∷ []) (a ∷ b ∷ []) env d refl)
      (same_closure (elements w) (table (elements w) 2 f) (table_of r.text w.relations ts)
      (λ a b p q. holds_table (elements w) (a ∷ b ∷ []) f (p, (q, tt)) ∙ own_mean w ts v r (x ∷ y ∷ []) (a ∷ b ∷ []) d refl) a b p q)

-- One name given an element; two of three names given elements.
bind_itself : (x : Text) (a : ℕ) (env : Environment) → bind x a env x ≡ a
unfolding bind
bind_itself x a env = rw (same_itself x)

one_distinct : (x : Text) → Distinct (x ∷ [])
unfolding member some_of
one_distinct x = distinct_one refl distinct_none

module _ {x y v : Text} (d : Distinct (x ∷ y ∷ v ∷ [])) where
  x_not_y : same x y ≡ false
  x_not_y = every_head (absent x (y ∷ v ∷ []) (distinct_head d))

  x_not_v : same x v ≡ false
  x_not_v = every_head (every_tail (absent x (y ∷ v ∷ []) (distinct_head d)))

  y_not_v : same y v ≡ false
  y_not_v = every_head (absent y (v ∷ []) (distinct_head (distinct_tail d)))

  first_two : Distinct (x ∷ y ∷ [])
  unfolding member some_of
  first_two = let m : member x (y ∷ []) ≡ false = rw x_not_y in distinct_one m (one_distinct y)

  module _ (a b : ℕ) (env : Environment) where
    at_x : bind_all (x ∷ y ∷ []) (a ∷ b ∷ []) env x ≡ a
    unfolding bind_all bind
    at_x = rw (same_itself x)

    at_y : bind_all (x ∷ y ∷ []) (a ∷ b ∷ []) env y ≡ b
    unfolding bind_all bind
    at_y = rw (x_not_y, same_itself y)

    at_v : bind_all (x ∷ y ∷ []) (a ∷ b ∷ []) env v ≡ env v
    unfolding bind_all bind
    at_v = rw (x_not_v, y_not_v)

-- The run of the program.
module _ {w : Accepted} {result nodes x y v : Text} (written : Written w result nodes x y v) (o : ℕ → Token) where
  abbrev u : ℕ
  u = elements w

  -- Result's table
  abbrev result_of : Tables → List ℕ
  result_of ts = table_of result w.relations ts

  -- the loop's tasks for the elements cs, before k
  abbrev loop : List ℕ → Environment → List Task → List Task
  loop cs env k = each (map (λ c. c ∷ []) cs) env (token o 34 v) (adding o result x y v) k

  joined_mean : (ts : Tables) (env : Environment) (a b : ℕ)
      → mean w ts (bind_all (x ∷ y ∷ []) (a ∷ b ∷ []) env) (joined o result x y v)
      ≡ pairs u (result_of ts) a b || (pairs u (result_of ts) a (env v) && pairs u (result_of ts) (env v) b)
  unfolding mean
  joined_mean ts env a b =
      let e = bind_all (x ∷ y ∷ []) (a ∷ b ∷ []) env in
      let d = written.distinct in
      rw (names_mean w ts e (token o 48 result) (token o 50 x ∷ token o 52 y ∷ []), names_mean w ts e (token o 56 result) (token o 58 x ∷ token o 60 v ∷ []), names_mean w ts e (token o 63 result) (token o 65 v ∷ token o 67 y ∷ []), at_x d a b env, at_y d a b env, at_v d a b env)

  inner_mean : (ts : Tables) (env : Environment) (a : ℕ) → mean w ts (bind_all (x ∷ []) (a ∷ []) env) (inner o result x) ≡ is_node u (result_of ts) a
  unfolding mean bind_all is_node
  inner_mean ts env a =
      let e = bind x a env in
      rw (first_mean w ts e (token o 19 result) (token o 21 x), second_mean w ts e (token o 26 result) (token o 30 x), bind_itself x a env)

  -- "Result(x,y) := Result(x,y) | (Result(x,node) & Result(node,y));": one turn of the loop's block adds the pairs joined at the node,
  -- and no other
  added : (ts : Tables) → Shaped u w.relations ts → (env : Environment) (out : Text) (n : ℕ) (k : List Task) (a b : ℕ) → a < u → b < u
      → pairs u (result_of (next w (state ts out n (tasks (adding o result x y v) env k))).tables) a b
      ≡ pairs u (result_of ts) a b || (pairs u (result_of ts) a (env v) && pairs u (result_of ts) (env v) b)
  unfolding tasks step
  added ts s env out n k a b p q =
      assigned_holds w ts env result (token o 43 x ∷ token o 45 y ∷ []) (joined o result x y v) (a ∷ b ∷ []) s written.two_columns (first_two written.distinct) (p, (q, tt)) refl
      ∙ joined_mean ts env a b

  -- so it is one turn of the closure, `through`
  added_through : (ts : Tables) → Shaped u w.relations ts → (env : Environment) (out : Text) (n : ℕ) (k : List Task)
      → Stage w result (next w (state ts out n (tasks (adding o result x y v) env k))) k out (suc n) (through u (env v) (result_of ts))
  unfolding tasks step
  added_through ts s env out n k =
      record {
        todo = refl;
        output = refl;
        steps = refl;
        shaped = assign_shaped w ts env result (name (token o 43 x) ∷ name (token o 45 y) ∷ []) (joined o result x y v) s;
        same_pairs = λ a b p q. added ts s env out n k a b p q ∙ sym (through_pairs u (env v) (result_of ts) a b p q);
      }

  -- one turn of the loop: an element is given to the variable, and the block taken
  turn : (ts : Tables) → Shaped u w.relations ts → (env : Environment) (out : Text) (n : ℕ) (k : List Task) (c : ℕ) (ws : List ℕ) → c < u → Same u (result_of ts) ws
      → Stage w result (after w 2 (state ts out n (taking env (token o 34 v) c (adding o result x y v) ∷ k))) k out (n + 2) (through u c ws)
  unfolding after step
  turn ts s env out n k c ws h e =
      let j = added_through ts s (bind v c env) out (suc n) k in
      let two : suc (suc n) ≡ n + 2 = omega arith in
      record {
        todo = j.todo;
        output = j.output;
        steps = j.steps ∙ two;
        shaped = j.shaped;
        same_pairs = λ a b p q.
            j.same_pairs a b p q ∙ ap (λ d. pairs u (through u d (result_of ts)) a b) (bind_itself v c env) ∙ same_through u c (result_of ts) ws h e a b p q;
      }

  -- from one stage to the next
  from_there : {s : State} {k : List Task} {out : Text} {n : ℕ} {ws : List ℕ} → Stage w result s k out n ws → state s.tables out n k ≡ s
  from_there j = rw (← j.todo, ← j.output, ← j.steps)

  onward : (i m n : ℕ) (s : State) {k : List Task} {out : Text} {ws : List ℕ} → Stage w result (after w m (after w i s)) k out (n + i + m) ws → Stage w result (after w (i + m) s) k out (n + (i + m)) ws
  onward i m n s j = rw (after_more, ← add_assoc) j

  -- the loop over the elements cs, when m of them are taken
  turns : (env : Environment) (out : Text) (k : List Task) (m : ℕ) (cs : List ℕ) → m ≤ length cs → Every (λ c. c < u) cs → {s : State} (n : ℕ) {ws : List ℕ}
      → Stage w result s (loop cs env k) out n ws → Stage w result (after w (2 * m) s) (loop (drop m cs) env k) out (n + 2 * m) (through_all u (take m cs) ws)
  unfolding through_all each after
  turns env out k zero cs h b n j = rw add-zero j
  turns env out k (suc m) [] h b n j = absurd (omega arith)
  turns env out k (suc m) (c ∷ cs) h (every_one g b) {s} n {ws} j =
      let two_more : 2 * suc m ≡ 2 + 2 * m = omega arith in
      let first = turn s.tables j.shaped env out n (loop cs env k) c ws g j.same_pairs in
      rw two_more (onward 2 (2 * m) n s
      (turns env out k m cs (le_of_suc-le-suc h) b (n + 2) (subst (λ z. Stage w result (after w 2 z) (loop cs env k) out (n + 2) (through u c ws)) (from_there j) first)))

  -- at any tables of the sizes of their relations, in any environment, after n steps with out written, before any statements and tasks
  module _ (r : Text) (ts : Tables) (shaped : Shaped u w.relations ts) (env : Environment) (out : Text) (n : ℕ) (rest : Program) (later : List Task) where
    abbrev begin : State
    begin = state ts out n (tasks (program o r result nodes x y v rest) env later)

    -- R's table
    abbrev start : List ℕ
    start = table_of r w.relations ts

    -- the nodes below c, ascending; all nodes
    abbrev nodes_below : ℕ → List ℕ
    nodes_below c = keep (is_node u start) (below c)

    abbrev ks : List ℕ
    ks = nodes_below u

    -- the tables after "Result(x,y) := R(x,y);"
    abbrev copied : Tables
    copied = assign_tables w ts env result (name (token o 2 x) ∷ name (token o 4 y) ∷ []) (given o r x y) w.relations ts

    copied_shaped : Shaped u w.relations copied
    copied_shaped = assign_shaped w ts env result (name (token o 2 x) ∷ name (token o 4 y) ∷ []) (given o r x y) shaped

    copied_pairs : Same u (result_of copied) start
    copied_pairs a b p q =
        let d = first_two written.distinct in
        assigned_holds w ts env result (token o 2 x ∷ token o 4 y ∷ []) (given o r x y) (a ∷ b ∷ []) shaped written.two_columns d (p, (q, tt)) refl
        ∙ own_mean w ts env (token o 7 r) (token o 9 x ∷ token o 11 y ∷ []) (a ∷ b ∷ []) d refl

    -- and after "Node(x) := Result(x,_) & Result(_,x);"
    abbrev noded : Tables
    noded = assign_tables w copied env nodes (name (token o 16 x) ∷ []) (inner o result x) w.relations copied

    noded_holds : (a : ℕ) → a < u → holds u (table_of nodes w.relations noded) (a ∷ []) ≡ is_node u start a
    noded_holds a p =
        assigned_holds w copied env nodes (token o 16 x ∷ []) (inner o result x) (a ∷ []) copied_shaped written.one_column (one_distinct x) (p, tt) refl
        ∙ inner_mean copied env a
        ∙ same_node u (result_of copied) start copied_pairs a p

    noded_result : result_of noded ≡ result_of copied
    noded_result = unassigned_table w copied env nodes result (name (token o 16 x) ∷ []) (inner o result x) (same_sym nodes result ∙ written.apart) w.relations copied

    -- "FOR node IN Node(x)": the loop's set is the nodes
    set_nodes : answers w noded env (atom (token o 36 nodes) (name (token o 38 x) ∷ [])) ≡ map (λ c. c ∷ []) ks
    set_nodes =
        own_answers w noded env (token o 36 nodes) (token o 38 x ∷ []) (one_distinct x) (every_one written.attribute every_none)
        ∙ keep_singles u (holds u (table_of nodes w.relations noded))
        ∙ ap (map (λ c. c ∷ [])) (keep_same (λ a. holds u (table_of nodes w.relations noded) (a ∷ [])) (is_node u start) (every_weaken noded_holds (elements_below u)))

    entered : Stage w result (after w 3 begin) (loop ks env (tasks rest env later)) out (n + 3) start
    unfolding after tasks step
    entered =
        record {
          todo = rw set_nodes;
          output = refl;
          steps = omega arith;
          shaped = assign_shaped w copied env nodes (name (token o 16 x) ∷ []) (inner o result x) copied_shaped;
          same_pairs = rw noded_result copied_pairs;
        }

    -- after each node: when m nodes are taken, Result has exactly the pairs of the working table that "adding arcs through that node" gives,
    -- for the first m nodes
    warshall_nodes : (m : ℕ) → m ≤ length ks
        → Stage w result (after w (3 + 2 * m) begin) (loop (drop m ks) env (tasks rest env later)) out (n + (3 + 2 * m)) (through_all u (take m ks) start)
    warshall_nodes m h = onward 3 (2 * m) n begin (turns env out (tasks rest env later) m ks h (every_keep (is_node u start) (elements_below u)) (n + 3) entered)

    -- "after each node the working table holds exactly the pairs joined by a chain of e pairs whose inner elements are nodes already worked":
    -- so does Result, when the nodes below c are taken
    pub warshall_worked : (c : ℕ) → c ≤ u → (a b : ℕ) → a < u → b < u
        → T (pairs u (result_of (after w (3 + 2 * length (nodes_below c)) begin).tables) a b) ↔ Chain (pairs u start) c a b
    warshall_worked c h a b p q =
        let (cs, e) = kept_first (is_node u start) c u h in
        let few : length (nodes_below c) ≤ length ks = omega (arith, ap length e, length-append (nodes_below c) cs) in
        let first : take (length (nodes_below c)) ks ≡ nodes_below c = ap (take (length (nodes_below c))) e ∙ take-append_seam (nodes_below c) cs in
        rw ((warshall_nodes (length (nodes_below c)) few).same_pairs a b p q, first) (nodes_chains u start c a b h p q)

    -- the whole program: it goes on with what follows, and Result has exactly the pairs of the closure
    pub warshall_closes : Stage w result (after w (3 + 2 * length ks) begin) (tasks rest env later) out (n + (3 + 2 * length ks)) (closure u start)
    unfolding closure each
    warshall_closes =
        let j = warshall_nodes (length ks) (omega arith) in
        record {
          todo = j.todo ∙ rw (drop-length ks);
          output = j.output;
          steps = j.steps;
          shaped = j.shaped;
          same_pairs = λ a b p q. j.same_pairs a b p q ∙ rw (take-length ks) (nodes_alone u start u (omega arith) a b p q);
        }

    -- that is, those for which TC(R(x,y)) was true before, where y too is no loop variable
    pub warshall_means : w.variables y ≡ false → (a b : ℕ) → a < u → b < u
        → pairs u (result_of (after w (3 + 2 * length ks) begin).tables) a b
        ≡ mean w ts (bind_all (x ∷ y ∷ []) (a ∷ b ∷ []) env) (closure_of (given o r x y))
    warshall_means h a b p q =
        warshall_closes.same_pairs a b p q
        ∙ sym (closure_mean w ts env (token o 7 r) (token o 9 x) (token o 11 y) a b (first_two written.distinct) (every_one written.attribute (every_one h every_none)) p q)

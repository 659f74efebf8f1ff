-- The manual's Warshall program, accepted and run: of every fact text with which its own text is accepted, under any limits.
use mathlib.Core.Path.{◌≡◌, refl, sym, ap, subst, ◌∙◌}
use mathlib.Core.Logic.{◌↔◌}
use mathlib.Core.Bool.{Bool, false}
use mathlib.Core.List.{List, [], ◌∷◌}
use Prim.Native.Nat.{ℕ, ◌+◌, ◌*◌, ◌<◌, ◌≤◌}
use native.Mathlib.Nat.{add-zero, zero-add}
use lib.Dec.{T}
use lib.ListN.{length}
use Rattle.definition.specs.Text.{Text, ascii, same, keep, below}
use Rattle.definition.specs.Limits.{Limits, document_01}
use Rattle.definition.specs.Token.{Token, Lexed, tokens, stopped, lexed, token_at}
use Rattle.definition.specs.Syntax.{closure_of, Program, end}
use Rattle.definition.specs.Answer.{ok}
use Rattle.definition.specs.Facts.{arities}
use Rattle.definition.specs.Names.{in_program, fact_kinds, is_variable}
use Rattle.definition.specs.Tables.{closure}
use Rattle.definition.specs.Accept.{Accepted, accept, elements, read_query}
use Rattle.definition.specs.Meaning.{nowhere, bind_all, table_of, mean}
use Rattle.definition.specs.Assignment.{loaded}
use Rattle.definition.specs.Run.{tasks, State, state, start, point}
use Rattle.definition.specs.Everything.{everything}
use Rattle.definition.proofs.DistinctLaws.{Distinct, distinct_one, distinct_none}
use Rattle.definition.proofs.AcceptLaws.{ok_injective, Parts, parts}
use Rattle.definition.proofs.NameLaws.{Numbered, names_numbered, facts_numbered, relation_arity}
use Rattle.definition.proofs.ScopeLaws.{AllNamed, IsAttribute, IsRelation, ScopedProgram, scoped}
use Rattle.definition.proofs.Chains.{Chain}
use Rattle.definition.proofs.ClosureLaws.{pairs}
use Rattle.definition.proofs.NodeLaws.{is_node}
use Rattle.definition.proofs.RunLaws.{Shaped, point_shaped}
use Rattle.definition.proofs.WarshallLaws.{given, program, Written, after, after_point, Stage, warshall_worked, warshall_closes, warshall_means}

-- the manual's text, and its tokens
abbrev pub manual : Text
manual = ascii "Result(x,y) := R(x,y);\nNode(x) := Result(x,_) & Result(_,x);\nFOR node IN Node(x) {\n    Result(x,y) := Result(x,y) | (Result(x,node) & Result(node,y));\n}\n"

abbrev tokens_of : Lexed → List Token
tokens_of (tokens ts) = ts
tokens_of (stopped p) = []

abbrev pub manual_token : ℕ → Token
manual_token = token_at (tokens_of (lexed manual))

-- it is read as the program of WarshallLaws, over its own names
abbrev pub manual_program : Program
manual_program = program manual_token (ascii "R") (ascii "Result") (ascii "Node") (ascii "x") (ascii "y") (ascii "node") end

pub manual_read : read_query manual ≡ ok manual_program
unfolding everything
manual_read = refl

-- and it is accepted, so what follows is not empty
pub manual_accepted : (w : Accepted) × (accept document_01 (ascii "R a b\nR b c\n") manual ≡ ok w)
unfolding everything
manual_accepted = (_, refl)

-- The names of an accepted program: a relation has the arity of its uses, an attribute is no loop variable.
module _ (limits : Limits) (facts query : Text) (w : Accepted) (h : Parts limits facts query w) where
  relation_columns : (x : Text) (n : ℕ) → IsRelation h.kinds x n → arities x w.relations ≡ n ∷ []
  relation_columns x n (i, e) =
      let numbered : Numbered h.kinds = names_numbered limits (in_program w.program) (fact_kinds h.facts_read.relations) h.kinds h.names (facts_numbered h.facts_read.relations) in
      ap (arities x) (sym h.relations) ∙ relation_arity h.kinds numbered x i n e

  attribute_free : (x : Text) → IsAttribute h.kinds x → w.variables x ≡ false
  attribute_free x e = ap (λ (vs : Text → Bool). vs x) (sym h.variables) ∙ ap is_variable e

  -- so this program, over any names of which x, y and node are three and Result and Node two, is written as its laws ask
  program_written : (o : ℕ → Token) (r result nodes x y v : Text) (rest : Program) → w.program ≡ program o r result nodes x y v rest → Distinct (x ∷ y ∷ v ∷ []) → same result nodes ≡ false
      → Written w result nodes x y v × (w.variables y ≡ false)
  unfolding ScopedProgram AllNamed
  program_written o r result nodes x y v rest e d a =
      let s : ScopedProgram h.kinds [] (program o r result nodes x y v rest) = subst (ScopedProgram h.kinds []) e (scoped limits h.facts_read.relations w.program h.kinds h.names) in
      let written : Written w result nodes x y v
      = record {
        distinct = d;
        apart = a;
        two_columns = relation_columns result 2 s.0;
        one_column = relation_columns nodes 1 s.1.1.1.0;
        attribute = attribute_free x s.1.0.0;
      } in
      (written, attribute_free y s.1.0.1.0)

names_distinct : Distinct (ascii "x" ∷ ascii "y" ∷ ascii "node" ∷ [])
unfolding everything
names_distinct = distinct_one refl (distinct_one refl (distinct_one refl distinct_none))

names_apart : same (ascii "Result") (ascii "Node") ≡ false
unfolding everything
names_apart = refl

-- Of every accepted pair of a fact text and the manual's:
module _ (limits : Limits) (facts : Text) (w : Accepted) (accepted : accept limits facts manual ≡ ok w) where
  is_program : w.program ≡ manual_program
  is_program = ok_injective (sym (parts limits facts manual w accepted).query_read ∙ manual_read)

  -- its names are what WarshallLaws asks of them, and y too is no loop variable
  pub written_accepted : Written w (ascii "Result") (ascii "Node") (ascii "x") (ascii "y") (ascii "node") × (w.variables (ascii "y") ≡ false)
  written_accepted =
      program_written limits facts manual w (parts limits facts manual w accepted) manual_token (ascii "R") (ascii "Result") (ascii "Node") (ascii "x") (ascii "y") (ascii "node") end is_program names_distinct names_apart

  abbrev u : ℕ
  u = elements w

  -- R's table, as the facts give it
  abbrev given_pairs : List ℕ
  given_pairs = table_of (ascii "R") w.relations (loaded w)

  -- the nodes below c, ascending
  abbrev nodes_below : ℕ → List ℕ
  nodes_below c = keep (is_node u given_pairs) (below c)

  -- the steps until those are taken: two assignments and the loop's set, then for each the element and the block's assignment
  abbrev steps_to : ℕ → ℕ
  steps_to c = 3 + 2 * length (nodes_below c)

  -- Result's table after n steps
  abbrev result_after : ℕ → List ℕ
  result_after n = table_of (ascii "Result") w.relations (point w n).tables

  loaded_shaped : Shaped u w.relations (loaded w)
  unfolding point start
  loaded_shaped = point_shaped w 0

  -- the run is the program's, from its beginning
  abbrev begin : State
  begin = state (loaded w) [] 0 (tasks manual_program nowhere [])

  begun : point w 0 ≡ begin
  unfolding point start
  begun = ap (λ (p : Program). state (loaded w) [] 0 (tasks p nowhere [])) is_program

  after_begin : (n : ℕ) → after w n begin ≡ point w n
  after_begin n = ap (after w n) (sym begun) ∙ after_point w n 0 ∙ ap (point w) (add-zero n)

  -- "after each node the working table holds exactly the pairs joined by a chain of e pairs whose inner elements are nodes already worked":
  -- so does Result, when the nodes below c are taken
  pub manual_worked : (c : ℕ) → c ≤ u → (a b : ℕ) → a < u → b < u → T (pairs u (result_after (steps_to c)) a b) ↔ Chain (pairs u given_pairs) c a b
  manual_worked c h a b p q =
      rw (← after_begin (steps_to c)) (warshall_worked written_accepted.0 manual_token (ascii "R") (loaded w) loaded_shaped nowhere [] 0 end [] c h a b p q)

  -- when all nodes are taken nothing is left to do, nothing is written, and Result has exactly the pairs of R's closure
  pub manual_closes : Stage w (ascii "Result") (point w (steps_to u)) [] [] (steps_to u) (closure u given_pairs)
  unfolding tasks
  manual_closes =
      let n = steps_to u in
      subst (λ (s : State). Stage w (ascii "Result") s [] [] n (closure u given_pairs)) (after_begin n)
      (subst (λ (m : ℕ). Stage w (ascii "Result") (after w n begin) [] [] m (closure u given_pairs)) (zero-add n)
      (warshall_closes written_accepted.0 manual_token (ascii "R") (loaded w) loaded_shaped nowhere [] 0 end []))

  -- that is, those for which TC(R(x,y)) is true of the facts
  pub manual_means : (a b : ℕ) → a < u → b < u
      → pairs u (result_after (steps_to u)) a b
      ≡ mean w (loaded w) (bind_all (ascii "x" ∷ ascii "y" ∷ []) (a ∷ b ∷ []) nowhere) (closure_of (given manual_token (ascii "R") (ascii "x") (ascii "y")))
  manual_means a b p q =
      rw (← after_begin (steps_to u)) (warshall_means written_accepted.0 manual_token (ascii "R") (loaded w) loaded_shaped nowhere [] 0 end [] written_accepted.1 a b p q)

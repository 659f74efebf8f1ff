-- What an evaluation rests on: the assignment stands for the environment, the store holds the tables and the closures.
use Rattle.std.specs.Prelude.{ℕ, ◌+◌, ◌-◌, ◌<◌, ◌≡◌, List, [], ◌∷◌, T, length, get_or}
use Rattle.definition.specs.Text.{Text, member}
use Rattle.definition.specs.Syntax.{Expression, atom, truth, falsity, compare, matching, negation, conjunction, disjunction, implication, equivalence, exists, for_all, closure_of, compare_relations, literal, count_of, sum_of, ratio_of, compare_figures}
use Rattle.definition.specs.Names.{free}
use Rattle.definition.specs.Tables.{Tuple, holds, table, closure}
use Rattle.definition.specs.Accept.{Accepted, elements}
use Rattle.definition.specs.Meaning.{Tables, Environment, bind_all, table_of, mean}
use Rattle.definition.proofs.TableLaws.{Below}
use Rattle.definition.proofs.RelationLaws.{place_of, no_relation}
use Rattle.eval.specs.Nodes.{operand}
use Rattle.eval.specs.Meaning.{World, world, table_at, closure_at, choices}
use Rattle.meaning.specs.Lowered.{closure_count, Placed}

module _ (w : Accepted) (β : Text → ℕ) (loops : List Text) (vs : List ℕ) where
  -- the variables of the open FORs are elements, by depth
  pub record Loops (env : Environment) : Type 0 where
    pub value : (v : Text) → T (member v loops) → get_or vs (β v - 72) 0 ≡ env v
    pub within : (v : Text) → T (member v loops) → env v < elements w

  -- and the attributes xs, by slot
  pub record Fits (xs : List Text) (env : Environment) (σ : List ℕ) : Type 0 where
    pub long : length σ ≡ 8
    pub value : (x : Text) → T (member x xs) → choices (elements w) vs σ (operand (β x)) ≡ env x ∷ []
    pub within : (x : Text) → T (member x xs) → env x < elements w
    pub variables : Loops env

  module _ (ts : Tables) (store firsts : List ℕ) where
    abbrev pub W : World
    W = world store firsts vs (elements w)

    -- each relation's table holds the tuples of elements that the definition's holds
    pub record Tabled : Type 0 where
      pub same : (r : Text) (t : Tuple) → place_of r w.relations < length w.relations
          → length t ≡ (get_or w.relations (place_of r w.relations) no_relation).arity → Below (elements w) t
          → holds (elements w) (table_at W (place_of r w.relations)) t ≡ holds (elements w) (table_of r w.relations ts) t

    -- the table of closure c holds the closure of e
    pub record Closes (c : ℕ) (e : Expression) : Type 0 where
      pub pairs : (env : Environment) → Loops env → (a b : ℕ) → a < elements w → b < elements w
          → holds (elements w) (closure_at W c) (a ∷ b ∷ [])
          ≡ holds (elements w) (closure (elements w) (table (elements w) 2 (λ t. mean w ts (bind_all (free w.variables e) t env) e))) (a ∷ b ∷ [])

    -- each closure of an expression stands in its table, the first in that with number c
    unfoldable pub Held : Expression → ℕ → Type 0
    Held (atom r ps) c = Unit {0}
    Held (truth ps) c = Unit {0}
    Held (falsity ps) c = Unit {0}
    Held (compare g p q) c = Unit {0}
    Held (matching s p) c = Unit {0}
    Held (negation e) c = Held e c
    Held (conjunction a b) c = Held a c × Held b (c + closure_count a)
    Held (disjunction a b) c = Held a c × Held b (c + closure_count a)
    Held (implication a b) c = Held a c × Held b (c + closure_count a)
    Held (equivalence a b) c = Held a c × Held b (c + closure_count a)
    Held (exists x e) c = Held e c
    Held (for_all x e) c = Held e c
    Held (closure_of e) c = Held e c × Closes (c + closure_count e) e
    Held (compare_relations g a b) c = Held a c × Held b (c + closure_count a)
    Held (literal t) c = Unit {0}
    Held (count_of e) c = Held e c
    Held (sum_of a b) c = Held a c × Held b (c + closure_count a)
    Held (ratio_of a b) c = Held a c × Held b (c + closure_count a)
    Held (compare_figures g a b) c = Held a c × Held b (c + closure_count a)

    -- and so for all expressions of a statement
    unfoldable pub HeldAll : List Placed → Type 0
    HeldAll [] = Unit {0}
    HeldAll (e ∷ es) = Held e.expression e.before × HeldAll es

-- The lowered words of one statement, from the place s up to its own word at k, inside the blocks of open FORs.
use Rattle.std.specs.Prelude.{ℕ, ◌+◌, ◌-◌, ◌%◌, ◌<◌, ◌≤◌, ◌≡◌, Bool, true, false, List, [], ◌∷◌, T, length, get_or, take, if◌then◌else◌}
use Rattle.definition.specs.Text.{Text, same, member}
use Rattle.definition.specs.Token.{Token}
use Rattle.definition.specs.Syntax.{Term, Expression, Item}
use Rattle.definition.specs.Names.{attributes, free}
use Rattle.definition.specs.Accept.{Accepted}
use Rattle.definition.proofs.RelationLaws.{place_of, no_relation}
use Rattle.words.specs.Fields.{kind_of, p_of}
use Rattle.words.specs.Raw.{size, size_items}
use Rattle.eval.specs.Nodes.{operand, slot, c_of, n_of}
use Rattle.meaning.specs.Lowered.{Naming, Leaves, Lowered}
use Rattle.columns.proofs.Assigned.{AllCoded}
use Rattle.prints.specs.Lowered.{PrintLowered}
use Rattle.actions.specs.Parts.{is_statement, start}
use Rattle.actions.specs.Doing.{columns_of}

-- how many FORs stand around the FOR of a loop variable; `scope` are the variables of the open FORs, the innermost first
unfoldable pub depth_in : Text → List Text → ℕ
depth_in y [] = 0
depth_in y (x ∷ xs) = let r = depth_in y xs in if same x y then (length xs) else r

-- the operand bytes of a statement's names
pub record Named (scope : List Text) (β : Text → ℕ) : Type 0 where
  pub naming : Naming β scope
  pub depths : (v : Text) → T (member v scope) → β v ≡ 72 + depth_in v scope

-- the places from s up to k belong to the statement whose own word is at k
pub record Whole (low : List ℕ) (s k : ℕ) : Type 0 where
  pub begins : start low s ≡ s
  pub order : s ≤ k
  pub quiet : (i : ℕ) → s ≤ i → i < k → is_statement (kind_of (get_or low i 0)) ≡ false

module _ (w : Accepted) (query : Text) (low : List ℕ) (scope : List Text) (s k : ℕ) where
  -- a test: no attribute is free
  pub record TestCode (e : Expression) : Type 0 where
    pub β : Text → ℕ
    pub named : Named scope β
    pub own : k ≡ s + size e
    pub words : Lowered w β scope low e s 0
    pub none : free w.variables e ≡ []

  -- a FOR's set: one attribute is free, and its slot stands in the own word
  pub record RangeCode (e : Expression) : Type 0 where
    pub β : Text → ℕ
    pub named : Named scope β
    pub own : k ≡ s + 1 + size e
    pub first : Leaves w β scope low s 1
    pub words : Lowered w β scope low e (s + 1) 0
    pub attribute : Text
    pub one : free w.variables e ≡ attribute ∷ []
    pub place : operand (β attribute) ≡ slot (c_of (get_or low k 0) % 8)

  -- an assignment: the own word has the relation's number, the columns and their number
  pub record AssignCode (r : Token) (ps : List Term) (e : Expression) : Type 0 where
    pub β : Text → ℕ
    pub named : Named scope β
    pub own : k ≡ s + 1 + length ps + size e
    pub first : Leaves w β scope low s (1 + length ps)
    pub words : Lowered w β scope low e (s + 1 + length ps) 0
    pub number : p_of (get_or low k 0) ≡ place_of r.text w.relations
    pub known : place_of r.text w.relations < length w.relations
    pub arity : length ps ≡ (get_or w.relations (place_of r.text w.relations) no_relation).arity
    pub short : length ps < 5
    pub count : n_of (get_or low k 0) ≡ length ps
    -- the attributes of the statement, and those of its left-hand side
    pub In : Text → Bool
    pub slots : (x : Text) → In x ≡ true → (64 ≤ β x) × (β x < 72)
    pub columns : AllCoded w In (λ x. β x - 64) ps (take (length ps) (columns_of (get_or low k 0)))
    pub covered : (x : Text) → T (member x (free w.variables e)) → T (member x (attributes w.variables ps))

  -- a PRINT: the own word has the place of the first one
  pub record PrintCode (is : List Item) : Type 0 where
    pub β : Text → ℕ
    pub named : Named scope β
    pub own : k ≡ s + size_items is
    pub first : p_of (get_or low k 0) ≡ s
    pub words : PrintLowered w β scope low query is k

-- The words of an expression after lowering. A statement's attributes have slots, its open loop variables the depths of their FORs, and
-- strings the numbers of their elements; a relation has its place in the store's order, a closure its number among the statement's.
use Rattle.std.specs.Prelude.{ℕ, ◌+◌, ◌-◌, ◌%◌, ◌<◌, ◌≤◌, ◌≡◌, true, not, cond, List, [], ◌∷◌, map, T, eqb, length, get_or}
use Rattle.definition.specs.Text.{Text, member, some_of, all_of}
use Rattle.definition.specs.Token.{Token, Sign, value}
use Rattle.definition.specs.Syntax.{Term, name, string, anything, Expression, atom, truth, falsity, compare, matching, negation, conjunction, disjunction, implication, equivalence, exists, for_all, closure_of, compare_relations, literal, count_of, sum_of, ratio_of, compare_figures}
use Rattle.definition.specs.Names.{free, join, closures}
use Rattle.definition.specs.Tables.{bit}
use Rattle.definition.specs.Pattern.{matches}
use Rattle.definition.specs.Accept.{Accepted, elements}
use Rattle.definition.specs.Meaning.{Tables, Environment, numbers, choices, nowhere, top, bottom, figure}
use Rattle.definition.proofs.RelationLaws.{place_of, no_relation}
use Rattle.words.specs.Fields.{kind_of, p_of, q_of, ATOM, TRUTH, FALSITY, ORDER, NEGATION, CONJUNCTION, DISJUNCTION, IMPLICATION, EQUIVALENCE, EXISTS, FOR_ALL, CLOSURE, COMPARISON, MATCH, COUNT, LITERAL, SUM, RATIO, FIGURES}
use Rattle.words.specs.Raw.{size, sign_number}
use Rattle.eval.specs.Nodes.{Operand, element, slot, variable, operand, operands, operands_of, a_of, b_of, c_of, d_of, n_of, half_of}
use Rattle.eval.specs.Nodes as Nodes
use Rattle.eval.specs.Meaning.{WRAP}

-- the place of an expression's own word, where its words begin at n
abbrev pub root : Expression → ℕ → ℕ
root e n = n + size e - 1

-- how many closures an expression has
abbrev pub closure_count : Expression → ℕ
closure_count e = length (closures e)

-- an expression of a statement, where its words begin, and how many closures the statement has before it
pub record Placed : Type 0 where
  pub expression : Expression
  pub place : ℕ
  pub before : ℕ

-- how a statement's names are lowered: β is the operand byte of a name, `loops` are the variables of the open FORs
pub record Naming (β : Text → ℕ) (loops : List Text) : Type 0 where
  -- two names have two slots
  pub apart : (x y : Text) (i : ℕ) → operand (β x) ≡ slot i → operand (β y) ≡ slot i → x ≡ y
  pub depths : (v : Text) → T (member v loops) → operand (β v) ≡ variable (β v - 72)

-- no part of a quantity comes to the limit of a word's sums, whatever the tables hold
abbrev pub Bounded : Accepted → Expression → Type 0
Bounded w e = (ts : Tables) (env : Environment) → (top (figure w ts env e) < WRAP) × (bottom (figure w ts env e) < WRAP)

module _ (w : Accepted) (β : Text → ℕ) (loops : List Text) where
  -- an operand stands for a term
  pub data Stands : Term → Operand → Type 0 where
    attribute : {t : Token} → T (not (w.variables t.text)) → Stands (name t) (operand (β t.text))
    loop_variable : {t : Token} → T (member t.text loops) → Stands (name t) (operand (β t.text))
    found : {t : Token} {a : ℕ} → numbers t.text w.universe 0 ≡ a ∷ [] → a < elements w → Stands (string t) (element a)
    -- "A string term outside the universe makes its atom false"
    missing : {t : Token} → numbers t.text w.universe 0 ≡ [] → Stands (string t) Nodes.absent
    any : Stands anything Nodes.any

  pub data Stand : List Term → List Operand → Type 0 where
    none : Stand [] []
    more : {p : Term} {o : Operand} {ps : List Term} {os : List Operand} → Stands p o → Stand ps os → Stand (p ∷ ps) (o ∷ os)

  module _ (low : List ℕ) where
    abbrev pub at : ℕ → ℕ
    at k = get_or low k 0

    -- m words from n on that are no closures: names and strings
    abbrev pub Leaves : ℕ → ℕ → Type 0
    Leaves n m = (i : ℕ) → i < m → kind_of (at (n + i)) ≡ CLOSURE → ⊥

    pub record Atom (k : ℕ) (r : Token) (ps : List Term) : Type 0 where
      pub kind : kind_of (at k) ≡ ATOM
      pub number : p_of (at k) ≡ place_of r.text w.relations
      pub known : place_of r.text w.relations < length w.relations
      pub arity : length ps ≡ (get_or w.relations (place_of r.text w.relations) no_relation).arity
      pub short : length ps < 5
      pub count : n_of (at k) ≡ length ps
      pub terms : Stand ps (operands (length ps) (operands_of (at k)))

    -- TRUE holds where each of its terms may stand for an element
    pub record Truth (k : ℕ) (ps : List Term) : Type 0 where
      pub kind : kind_of (at k) ≡ cond (all_of (λ p. some_of (λ a. true) (choices w nowhere p)) ps) TRUTH FALSITY

    pub record Order (k : ℕ) (g : Sign) (p q : Term) : Type 0 where
      pub kind : kind_of (at k) ≡ ORDER
      pub sign : p_of (at k) ≡ sign_number g
      pub left : Stands p (operand (a_of (at k)))
      pub right : Stands q (operand (b_of (at k)))

    -- of the elements that match a pattern, the 32 from b on; there are at most 64
    pub record Half (k b : ℕ) (s : Token) (p : Term) : Type 0 where
      pub kind : kind_of (at k) ≡ MATCH
      pub first : p_of (at k) ≡ b
      pub set : (i : ℕ) → i < 32 → b + i < elements w → bit (half_of (at k)) i ≡ matches s.text (get_or w.universe (b + i) [])
      pub few : elements w ≤ 64
      pub term : Stands p (operand (n_of (at k)))

    -- an operator with one child, and with two
    pub record One (k K a : ℕ) : Type 0 where
      pub kind : kind_of (at k) ≡ K
      pub child : p_of (at k) ≡ a

    pub record Two (k K a b : ℕ) : Type 0 where
      pub kind : kind_of (at k) ≡ K
      pub first : p_of (at k) ≡ a
      pub second : q_of (at k) ≡ b

    pub record Quantifier (k K a : ℕ) (x : Token) : Type 0 where
      pub kind : kind_of (at k) ≡ K
      pub place : operand (β x.text) ≡ slot (p_of (at k) % 8)
      pub child : q_of (at k) ≡ a

    -- the closure with number c
    pub record Closure (k a c : ℕ) (e : Expression) : Type 0 where
      pub one : One k CLOSURE a
      pub slots : map (λ x. operand (β x)) (free w.variables e) ≡ slot (a_of (at k) % 8) ∷ slot (b_of (at k) % 8) ∷ []
      pub number : c_of (at k) ≡ c
      pub few : c < 16

    -- the slots of xs are those of the mask
    pub record Mask (k : ℕ) (xs : List Text) : Type 0 where
      pub slots : (x : Text) → T (member x xs) → operand (β x) ≡ slot (β x - 64)
      pub bits : (i : ℕ) → i < 8 → bit (d_of (at k)) i ≡ some_of (λ x. eqb (β x - 64) i) xs

    pub record Comparison (k a b : ℕ) (g : Sign) (xs : List Text) : Type 0 where
      pub two : Two k COMPARISON a b
      pub sign : c_of (at k) ≡ sign_number g
      pub mask : Mask k xs

    pub record Literal (k : ℕ) (t : Token) : Type 0 where
      pub kind : kind_of (at k) ≡ LITERAL
      pub number : half_of (at k) ≡ value t.text

    -- a row has at most 64 elements
    pub record Count (k a : ℕ) (xs : List Text) : Type 0 where
      pub one : One k COUNT a
      pub mask : Mask k xs
      pub few : elements w ≤ 64

    pub record Figures (k a b : ℕ) (g : Sign) : Type 0 where
      pub two : Two k FIGURES a b
      pub sign : c_of (at k) ≡ sign_number g

    -- the words of an expression from n on, with c closures of its statement before
    unfoldable pub Lowered : Expression → ℕ → ℕ → Type 0
    Lowered (atom r ps) n c = Leaves n (length ps + 1) × Atom (n + (length ps + 1)) r ps
    Lowered (truth ps) n c = Leaves n (length ps) × Truth (n + length ps) ps
    Lowered (falsity ps) n c = Leaves n (length ps) × (kind_of (at (n + length ps)) ≡ FALSITY)
    Lowered (compare g p q) n c = Leaves n 2 × Order (n + 2) g p q
    Lowered (matching s p) n c = Leaves n 1 × (Half (n + 1) 0 s p × (Half (n + 2) 32 s p × Two (n + 3) DISJUNCTION (n + 1) (n + 2)))
    Lowered (negation e) n c = Lowered e n c × One (n + size e) NEGATION (root e n)
    Lowered (conjunction a b) n c = Lowered a n c × (Lowered b (n + size a) (c + closure_count a) × Two (n + size a + size b) CONJUNCTION (root a n) (root b (n + size a)))
    Lowered (disjunction a b) n c = Lowered a n c × (Lowered b (n + size a) (c + closure_count a) × Two (n + size a + size b) DISJUNCTION (root a n) (root b (n + size a)))
    Lowered (implication a b) n c = Lowered a n c × (Lowered b (n + size a) (c + closure_count a) × Two (n + size a + size b) IMPLICATION (root a n) (root b (n + size a)))
    Lowered (equivalence a b) n c = Lowered a n c × (Lowered b (n + size a) (c + closure_count a) × Two (n + size a + size b) EQUIVALENCE (root a n) (root b (n + size a)))
    Lowered (exists x e) n c = Leaves n 1 × (Lowered e (n + 1) c × Quantifier (n + 1 + size e) EXISTS (root e (n + 1)) x)
    Lowered (for_all x e) n c = Leaves n 1 × (Lowered e (n + 1) c × Quantifier (n + 1 + size e) FOR_ALL (root e (n + 1)) x)
    Lowered (closure_of e) n c = Lowered e n c × Closure (n + size e) (root e n) (c + closure_count e) e
    Lowered (compare_relations g a b) n c =
        Lowered a n c × (Lowered b (n + size a) (c + closure_count a) × Comparison (n + size a + size b) (root a n) (root b (n + size a)) g (join (free w.variables a) (free w.variables b)))
    Lowered (literal t) n c = Literal n t
    Lowered (count_of e) n c = Lowered e n c × Count (n + size e) (root e n) (free w.variables e)
    Lowered (sum_of a b) n c = Lowered a n c × (Lowered b (n + size a) (c + closure_count a) × Two (n + size a + size b) SUM (root a n) (root b (n + size a)))
    Lowered (ratio_of a b) n c = Lowered a n c × (Lowered b (n + size a) (c + closure_count a) × Two (n + size a + size b) RATIO (root a n) (root b (n + size a)))
    Lowered (compare_figures g a b) n c =
        Lowered a n c × (Lowered b (n + size a) (c + closure_count a) × (Figures (n + size a + size b) (root a n) (root b (n + size a)) g × (Bounded w a × Bounded w b)))

    -- m words of a statement from n on, c of its closures before them: words that are no closures, and expressions
    pub data Sequence : ℕ → ℕ → ℕ → List Placed → Type 0 where
      none : {n c : ℕ} → Sequence n 0 c []
      leaves : {n c m : ℕ} {es : List Placed} (k : ℕ) → Leaves n k → Sequence (n + k) m c es → Sequence n (k + m) c es
      expression : {n c m : ℕ} {es : List Placed} (e : Expression) → Lowered e n c → Sequence (n + size e) m (c + closure_count e) es
          → Sequence n (size e + m) c (record { expression = e; place = n; before = c } ∷ es)

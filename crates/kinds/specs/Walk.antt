-- Rows 11, 5 and 6 in one walk over the words of a program, by the numbers of names.
use Rattle.std.specs.Prelude.{ℕ, ◌+◌, ◌*◌, ◌-◌, ◌/◌, ◌%◌, ◌≤◌, ◌≡◌, cond, List, [], ◌∷◌, eqb, ltb, get_or, set, Result, Ok, Err}
use Rattle.definition.specs.Names.{Known, nothing, attribute, variable, open_variable, relation}
use Rattle.definition.specs.declared.Refusal.{Refusal}
use Rattle.definition.specs.Answer.{number, place}
use Rattle.words.specs.Fields.{kind_of, p_of, q_of, RELATION_NAME, ATTRIBUTE, TERM, WORD, BIND, RANGE, NEXT}
use Rattle.kinds.specs.declared.Rule.{Rule}
use Rattle.kinds.specs.declared.Rule.TheVariants.{Keep, Fresh, Kind, Arity}

-- what a number says of a name: 0 nothing, 1 an attribute, 2 a loop variable, 3 one whose block is open, else a relation
unfoldable pub known_of : ℕ → Known
known_of k = cond (eqb k 0) nothing (cond (eqb k 1) attribute (cond (eqb k 2) variable (cond (eqb k 3) open_variable (relation ((k - 4) / 4) (k % 4)))))

abbrev pub relation_code : ℕ → ℕ → ℕ
relation_code i n = 4 + i * 4 + n

-- the definition's rule, on numbers
abbrev pub relation_rule : ℕ → ℕ → Rule
relation_rule k n =
    cond (eqb k 0) (cond (ltb 3 n) Arity (Fresh n))
    (cond (ltb k 4) Kind (cond (eqb (k % 4) n) (Keep k) Arity))

abbrev pub attribute_rule : ℕ → Rule
attribute_rule k = cond (ltb k 2) (Keep 1) Kind

-- a loop variable of which one number must be known, and another is then
abbrev pub turn_rule : ℕ → ℕ → ℕ → Rule
turn_rule k from to = cond (eqb k from) (Keep to) Kind

abbrev pub term_rule : ℕ → Rule
term_rule k = cond (eqb k 3) (Keep 3) (attribute_rule k)

abbrev pub bind_rule : ℕ → Rule
bind_rule k = cond (eqb k 0) (Keep 2) (cond (eqb k 2) (Keep 2) Kind)

unfoldable pub rule_of : ℕ → ℕ → ℕ → Rule
rule_of k role n =
    cond (eqb role RELATION_NAME) (relation_rule k n)
    (cond (eqb role ATTRIBUTE) (attribute_rule k)
    (cond (eqb role TERM) (term_rule k)
    (cond (eqb role WORD) (turn_rule k 3 3) (cond (eqb role BIND) (bind_rule k) (cond (eqb role RANGE) (turn_rule k 2 3) (turn_rule k 3 2))))))

-- what is known of the names by number, the relations' words, and how many these are
pub record State : Type 0 where
  pub known : List ℕ
  pub relations : List ℕ
  pub count : ℕ

abbrev pub state : List ℕ → List ℕ → ℕ → State
state k r c = record { known = k; relations = r; count = c }

pub data Walked : Type 0 where
  went : State → Walked
  -- row and place
  stopped : ℕ → ℕ → Walked

-- the word of a relation of n terms that is first named by the token w
abbrev pub relation_word : ℕ → ℕ → ℕ
relation_word w n = w / 4096 * 512 + w / 64 % 64 * 8 + 4 + n

-- a rule at the token w, whose name has the number j
abbrev pub apply : State → ℕ → ℕ → Rule → Walked
apply s w j (Keep v) = went (state (set s.known j v) s.relations s.count)
apply s w j (Fresh n) =
    cond (ltb s.count 16)
    (went (state (set s.known j (relation_code s.count n)) (set s.relations s.count (relation_word w n)) (s.count + 1)))
    (stopped 6 (w / 4096))
apply s w j Kind = stopped 11 (w / 4096)
apply s w j Arity = stopped 5 (w / 4096)

module _ (tokens ids : List ℕ) where
  -- one use of a name, at token t
  unfoldable pub use_at : State → ℕ → ℕ → ℕ → Walked
  use_at s role t n = apply s (get_or tokens t 0) (get_or ids t 0) (rule_of (get_or s.known (get_or ids t 0) 0) role n)

  unfoldable pub step : State → ℕ → Walked
  step s w = cond (eqb (kind_of w) 0) (went s) (cond (ltb NEXT (kind_of w)) (went s) (use_at s (kind_of w) (p_of w) (q_of w)))

abbrev pub after : Walked → (State → Walked) → Walked
after (went s) f = f s
after (stopped r p) f = stopped r p

unfoldable pub walk : List ℕ → List ℕ → List ℕ → State → Walked
walk tokens ids [] s = went s
walk tokens ids (w ∷ ws) s = after (step tokens ids s w) (walk tokens ids ws)

-- the answer of the code, with the two arrays it left
abbrev pub meets : Walked → List ℕ → List ℕ → Result ℕ Refusal → Type 0
meets o k r (Ok c) = (o ≡ went (state k r c)) × (c ≤ 16)
meets o k r (Err q) = o ≡ stopped (number q) (place q)

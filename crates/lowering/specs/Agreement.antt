-- When the arrays that lowering reads agree with the definition: a statement's names and strings are those of its text, and each token's
-- code and each expression's free attributes are right.
use Rattle.std.specs.Prelude.{ℕ, ◌+◌, ◌-◌, ◌%◌, ◌<◌, ◌≤◌, ◌≡◌, Bool, true, false, not, List, [], ◌∷◌, map, T, length, get_or}
use Rattle.definition.specs.Text.{Text, member}
use Rattle.definition.specs.Limits.{LARGEST_LITERAL}
use Rattle.definition.specs.Token.{Token, value}
use Rattle.definition.specs.Syntax.{Term, name, string, anything, Expression, atom, truth, falsity, compare, matching, negation, conjunction, disjunction, implication, equivalence, exists, for_all, closure_of, compare_relations, literal, count_of, sum_of, ratio_of, compare_figures, Item, rows, line_end, amount}
use Rattle.definition.specs.Syntax as Syntax
use Rattle.definition.specs.Names.{free}
use Rattle.definition.specs.Tables.{bit}
use Rattle.definition.specs.Pattern.{matches}
use Rattle.definition.specs.Accept.{Accepted, elements}
use Rattle.definition.specs.Meaning.{numbers}
use Rattle.definition.proofs.RelationLaws.{place_of, no_relation}
use Rattle.words.specs.Fields.{word}
use Rattle.words.specs.Raw.{number, size, flat}
use Rattle.words.specs.Tokens.{OwnName, OwnString, OwnLiteral}
use Rattle.intern.specs.Entries.{start_of, text_at}
use Rattle.digits.specs.Lists.{pack}
use Rattle.digits.proofs.Listing.{Listed}
use Rattle.free.specs.Words.{is_leaf}
use Rattle.words.specs.Standing.{Has}
use Rattle.meaning.specs.Lowered.{root, Bounded}
use Rattle.lowering.specs.Lowering.{at, TokenValues, closures_before}

-- `In` says which names are attributes of the statement, `loops` are the variables of the open FORs
module _ (w : Accepted) (ts : List Token) (loops : List Text) (In : Text → Bool) where
  pub data Held : Text → Type 0 where
    attribute : {x : Text} → In x ≡ true → Held x
    variable : {x : Text} → T (member x loops) → Held x

  abbrev pub ScopedTerm : Term → Type 0
  ScopedTerm (name t) = OwnName ts t × Held t.text
  ScopedTerm (string t) = OwnString ts t
  ScopedTerm anything = Unit {0}

  unfoldable pub ScopedTerms : List Term → Type 0
  ScopedTerms [] = Unit {0}
  ScopedTerms (p ∷ ps) = ScopedTerm p × ScopedTerms ps

  -- a relation before its terms
  pub record Known (r : Token) (ps : List Term) : Type 0 where
    pub own : OwnName ts r
    pub known : place_of r.text w.relations < length w.relations
    pub arity : length ps ≡ (get_or w.relations (place_of r.text w.relations) no_relation).arity
    pub short : length ps < 5

  unfoldable pub Scoped : Expression → Type 0
  Scoped (atom r ps) = Known r ps × ScopedTerms ps
  Scoped (truth ps) = ScopedTerms ps
  Scoped (falsity ps) = ScopedTerms ps
  Scoped (compare g p q) = ScopedTerm p × ScopedTerm q
  Scoped (matching s p) = OwnString ts s × ScopedTerm p
  Scoped (negation e) = Scoped e
  Scoped (conjunction a b) = Scoped a × Scoped b
  Scoped (disjunction a b) = Scoped a × Scoped b
  Scoped (implication a b) = Scoped a × Scoped b
  Scoped (equivalence a b) = Scoped a × Scoped b
  Scoped (exists x e) = (OwnName ts x × (In x.text ≡ true)) × Scoped e
  Scoped (for_all x e) = (OwnName ts x × (In x.text ≡ true)) × Scoped e
  Scoped (closure_of e) = (length (free w.variables e) ≡ 2) × Scoped e
  Scoped (compare_relations g a b) = Scoped a × Scoped b
  Scoped (literal t) = OwnLiteral ts t × (value t.text ≤ LARGEST_LITERAL)
  Scoped (count_of e) = Scoped e
  Scoped (sum_of a b) = Scoped a × Scoped b
  Scoped (ratio_of a b) = Scoped a × Scoped b
  Scoped (compare_figures g a b) = (Scoped a × Scoped b) × (Bounded w a × Bounded w b)

  -- a left-hand term: an attribute of the statement, or a string, which then is an element
  abbrev pub ScopedLeft : Term → Type 0
  ScopedLeft (name t) = OwnName ts t × (In t.text ≡ true)
  ScopedLeft (string t) = OwnString ts t × (numbers t.text w.universe 0 ≡ [] → ⊥)
  ScopedLeft anything = ⊥

  unfoldable pub ScopedLefts : List Term → Type 0
  ScopedLefts [] = Unit {0}
  ScopedLefts (p ∷ ps) = ScopedLeft p × ScopedLefts ps

  -- what is printed by itself: an open loop variable or a string; a label is one such, or there is none
  abbrev pub ScopedWord : Term → Type 0
  ScopedWord (name t) = OwnName ts t × T (member t.text loops)
  ScopedWord (string t) = OwnString ts t
  ScopedWord anything = ⊥

  abbrev pub ScopedLabel : List Term → Type 0
  ScopedLabel [] = Unit {0}
  ScopedLabel (p ∷ []) = ScopedWord p
  ScopedLabel (p ∷ q ∷ ps) = ⊥

  unfoldable pub ScopedItem : Item → Type 0
  ScopedItem (rows ps e) = ScopedLabel ps × Scoped e
  ScopedItem (Syntax.word p) = ScopedWord p
  ScopedItem line_end = Unit {0}
  ScopedItem (amount e) = Bounded w e × Scoped e

  unfoldable pub ScopedItems : List Item → Type 0
  ScopedItems [] = Unit {0}
  ScopedItems (i ∷ is) = ScopedItem i × ScopedItems is

  -- the code of a string
  pub data Element (t : Token) (c : ℕ) : Type 0 where
    found : numbers t.text w.universe 0 ≡ c ∷ [] → c < elements w → Element t c
    missing : numbers t.text w.universe 0 ≡ [] → c ≡ 255 → Element t c

  -- β is the operand byte of a name; `Clear n` says that no term stands just before the place n
  module _ (β : Text → ℕ) (Clear : ℕ → Type 0) (words codes fr : List ℕ) (lo hi : ℕ) where
    -- an attribute's digit: its slot and 1
    abbrev pub digit : Text → ℕ
    digit x = β x - 63

    -- at an expression's own word stand its free attributes, in order of first free occurrence
    pub record FreeAt (e : Expression) (n : ℕ) : Type 0 where
      pub value : get_or fr (root e n) 0 ≡ pack (map digit (free w.variables e))
      pub listed : Listed 4 (map digit (free w.variables e))
      pub inside : (x : Text) → T (member x (free w.variables e)) → In x ≡ true
      pub ended : Clear (n + size e)

    pub record Agrees : Type 0 where
      pub attributes : (t : Token) → OwnName ts t → In t.text ≡ true → get_or codes (number t) 0 ≡ β t.text
      pub variables : (t : Token) → OwnName ts t → T (member t.text loops) → get_or codes (number t) 0 ≡ β t.text
      pub slots : (x : Text) → In x ≡ true → (64 ≤ β x) × (β x < 68)
      pub depths : (x : Text) → T (member x loops) → (72 ≤ β x) × (β x < 104)
      pub unbound : (x : Text) → In x ≡ true → T (not (w.variables x))
      pub relations : (r : Token) → OwnName ts r → place_of r.text w.relations < length w.relations → get_or codes (number r) 0 ≡ place_of r.text w.relations
      pub strings : (t : Token) → OwnString ts t → Element t (get_or codes (number t) 0)
      pub few_relations : length w.relations ≤ 16
      pub few_elements : elements w ≤ 64
      pub few_tokens : length ts < 65536
      pub few_words : hi < 65536
      pub few_closures : closures_before (at words) lo hi ≤ 16
      pub frees : (e : Expression) (n : ℕ) → Scoped e → lo ≤ n → n + size e ≤ hi → Clear n → Has words n (flat e n) → FreeAt e n
      pub others : (n K p q r : ℕ) → lo ≤ n → n < hi → K < 256 → is_leaf K ≡ false → get_or words n 0 ≡ word K p q r → Clear (n + 1)

-- the tokens of strings have their texts in the query
pub record Spelled (ts : List Token) (query : Text) (tokens : List ℕ) : Type 0 where
  pub text : (t : Token) → OwnString ts t → text_at query (get_or tokens (number t) 0) ≡ t.text
  pub near : (t : Token) → OwnString ts t → start_of (get_or tokens (number t) 0) < 65536

-- the halves of a pattern's elements are of those that match it, and a literal's value is that of its digits
pub record Valued (w : Accepted) (ts : List Token) (H : TokenValues) : Type 0 where
  pub set : (t : Token) → OwnString ts t → (b i : ℕ) → i < 32 → b + i < elements w → bit (H.half (number t) b % 4294967296) i ≡ matches t.text (get_or w.universe (b + i) [])
  pub digits : (t : Token) → OwnLiteral ts t → H.number (number t) ≡ value t.text

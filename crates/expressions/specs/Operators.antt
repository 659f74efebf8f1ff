-- The words over operands, the closing bracket, the attributes of a quantifier, and the parts of a quantity.
use Rattle.std.specs.Prelude.{Ok, Err, false, List, [], ◌∷◌, map, ◌≡◌, ℕ, zero, suc, ◌+◌, ◌*◌, ◌-◌, ◌≤◌, ◌<◌, length, drop, set}
use Rattle.std.proofs.lemmas.List.Edits.{sets}
use Rattle.definition.proofs.GrammarReads.{Reads, Fails}
use Rattle.definition.specs.Grammar.{Nonterminal, Tree, Summand, MoreSummands}
use Rattle.definition.specs.Reader.{phrase}
use Rattle.definition.specs.Syntax as Syntax
use Rattle.definition.specs.Syntax.{says}
use Rattle.definition.specs.Token.{Token, LPAREN, COMMA, EX, FA, TC, TCFAST, HASH}
use Rattle.lexer.specs.Tokens.{NAME}
use Rattle.terms.specs.declared.ParseError.TheVariants.{NoProgram, Number}
use Rattle.terms.specs.Phrases.{Answer, row_of, token_of, kind_in, seen, Holds, Wrote, far, Parsed, IsPrimary}
use Rattle.terms.specs.Terms.{FirstOfQuantity, NoQuantity}
use Rattle.words.specs.Fields.{word, ATTRIBUTE, EXISTS, FOR_ALL, CLOSURE, COUNT}
use Rattle.words.specs.Raw.{flat}

-- room for the word l over an operand that ends before the word m
pub record Space (M k m s l : ℕ) : Type 0 where
  pub kind : k < 256
  pub sign : s < 65536
  pub left : 0 < m
  pub order : m ≤ l
  pub room : l < M
  pub small : l ≤ 65535

abbrev pub JoinRoom : ℕ → ℕ → ℕ → ℕ → Answer → Type 0
JoinRoom M k m s (Ok (q, l)) = Space M k m s l
JoinRoom M k m s (Err why) = Unit {0}

abbrev pub Joined : ℕ → ℕ → ℕ → List ℕ → List ℕ → Answer → Answer → Type 0
Joined k m s A A' (Ok (q, l)) r = (r ≡ Ok (q, l + 1)) × (A' ≡ set A l (word k (m - 1) (l - 1) s))
Joined k m s A A' (Err why) r = r ≡ Err why

abbrev pub WrapRoom : ℕ → ℕ → Answer → Type 0
WrapRoom M k (Ok (q, m)) = Space M k m 0 m
WrapRoom M k (Err why) = Unit {0}

abbrev pub Wrapped : ℕ → List ℕ → List ℕ → Answer → Answer → Type 0
Wrapped k A A' (Ok (q, m)) r = (r ≡ Ok (q, m + 1)) × (A' ≡ set A m (word k (m - 1) 0 0))
Wrapped k A A' (Err why) r = r ≡ Err why

-- from p up to q: names with a comma after each, by their tokens; at q there is no further one
pub data Names (ws : List ℕ) : ℕ → ℕ → List ℕ → Type 0 where
  no_more : {p : ℕ} → (kind_in ws p ≡ NAME → kind_in ws (p + 1) ≡ COMMA → ⊥) → Names ws p p []
  one_more : {p q : ℕ} {vs : List ℕ} → kind_in ws p ≡ NAME → kind_in ws (p + 1) ≡ COMMA → Names ws (p + 2) q vs → Names ws p q (p ∷ vs)

abbrev pub attribute : ℕ → ℕ
attribute v = word ATTRIBUTE v 0 0

-- from p up to q: the opening bracket and the attributes
pub record Bound (ws : List ℕ) (p n : ℕ) (A A' : List ℕ) (q m : ℕ) : Type 0 where
  pub names : List ℕ
  pub opened : kind_in ws p ≡ LPAREN
  pub name : kind_in ws (p + 1) ≡ NAME
  pub comma : kind_in ws (p + 2) ≡ COMMA
  pub more : Names ws (p + 1) q names
  pub wrote : Wrote A n (map attribute names) m A'
  pub some : n < m
  pub paid : 2 * m + p + 1 ≡ 2 * n + q
  pub within : q ≤ length ws

-- none: no bracket, no name or no comma
pub data Unbound (ws : List ℕ) (p : ℕ) : ℕ → Type 0 where
  no_bracket : (kind_in ws p ≡ LPAREN → ⊥) → Unbound ws p p
  no_name : kind_in ws p ≡ LPAREN → (kind_in ws (p + 1) ≡ NAME → ⊥) → Unbound ws p (p + 1)
  no_comma : kind_in ws p ≡ LPAREN → kind_in ws (p + 1) ≡ NAME → (kind_in ws (p + 2) ≡ COMMA → ⊥) → Unbound ws p (p + 2)

abbrev pub bound : List ℕ → ℕ → ℕ → List ℕ → List ℕ → Answer → Type 0
bound ws p n A A' (Ok (q, m)) = Bound ws p n A A' q m
bound ws p n A A' (Err why) = (row_of why ≡ 10) × (Unbound ws p (token_of why) × (token_of why ≤ length ws))

pub record IsBound (ws : List ℕ) (p n : ℕ) (A A' : List ℕ) (r : Answer) : Type 0 where
  pub is : bound ws p n A A' r

-- the words of j quantifiers over the attributes from n on, the last first, each over the word before k
unfoldable pub binders : ℕ → ℕ → ℕ → ℕ → List ℕ
binders kind zero n k = []
binders kind (suc j) n k = word kind (n + j) (k - 1) 0 ∷ binders kind j n (k + 1)

pub record BindSpace (M kind n m l : ℕ) : Type 0 where
  pub small_kind : kind < 256
  pub order : n ≤ m
  pub body : m < l
  pub room : l + (m - n) ≤ M
  pub small : l + (m - n) ≤ 65536

abbrev pub BindRoom : ℕ → ℕ → ℕ → ℕ → Answer → Type 0
BindRoom M kind n m (Ok (q, l)) = BindSpace M kind n m l
BindRoom M kind n m (Err why) = Unit {0}

abbrev pub Binds : ℕ → ℕ → ℕ → List ℕ → List ℕ → Answer → Answer → Type 0
Binds kind n m A A' (Ok (q, l)) r = (r ≡ Ok (q, l + (m - n))) × (A' ≡ sets A l (binders kind (m - n) n l))
Binds kind n m A A' (Err why) r = r ≡ Err why

-- EX and FA, and the kinds of their words
pub data Quantifier : ℕ → ℕ → Type 0 where
  is_ex : Quantifier EX EXISTS
  is_fa : Quantifier FA FOR_ALL

-- what stands before an expression in brackets, and the kind of the word over it
pub data Applies : ℕ → ℕ → Type 0 where
  is_tc : Applies TC CLOSURE
  is_tcfast : Applies TCFAST CLOSURE
  is_hash : Applies HASH COUNT

-- a summand that is none too many
abbrev pub IsSummand : List ℕ → ℕ → ℕ → ℕ → List ℕ → List ℕ → Answer → Type 0
IsSummand = Parsed (Summand false) (λ ts t. says ts t)

-- a closure is a primary, #(e) a summand
pub record Applied (ws : List ℕ) (p n d kind : ℕ) (A A' : List ℕ) (r : Answer) : Type 0 where
  pub closure : kind ≡ CLOSURE → IsPrimary ws p n d A A' r
  pub count : kind ≡ COUNT → IsSummand ws p n d A A' r

-- the tokens from p up to q are the phrases y and z, which say one expression, and its words stand from n up to m
pub record Series (y z : Nonterminal) (e : List Token → Tree y → Tree z → Syntax.Expression) (ws : List ℕ) (ts : List Token) (p n d : ℕ) (A A' : List ℕ) (q m : ℕ) : Type 0 where
  pub first : Tree y
  pub rest : Tree z
  pub reads : Reads d (phrase y ∷ phrase z ∷ []) (drop p (seen ws)) (first, (rest, tt)) (drop q (seen ws))
  pub wrote : Wrote A n (flat (e ts first rest) n) m A'

abbrev pub series : (y z : Nonterminal) → (List Token → Tree y → Tree z → Syntax.Expression) → List ℕ → List Token → ℕ → ℕ → ℕ → List ℕ → List ℕ → Answer → Type 0
series y z e ws ts p n d A A' (Ok (q, m)) = Series y z e ws ts p n d A A' q m
series y z e ws ts p n d A A' (Err why) = Fails d (phrase y ∷ phrase z ∷ []) (drop p (seen ws)) (row_of why) (drop (token_of why) (seen ws))

pub record IsSeries (y z : Nonterminal) (e : List Token → Tree y → Tree z → Syntax.Expression) (ws : List ℕ) (p n d : ℕ) (A A' : List ℕ) (r : Answer) : Type 0 where
  pub bounds : far ws p n r
  pub at : (ts : List Token) → Holds ws ts → series y z e ws ts p n d A A' r

-- a summand, and up to seven more
abbrev pub IsSum : List ℕ → ℕ → ℕ → ℕ → List ℕ → List ℕ → Answer → Type 0
IsSum = IsSeries (Summand false) (MoreSummands 7) (λ ts a b. says ts b (says ts a))

-- after + where no further summand may come
pub data IsNinth (ws : List ℕ) (p : ℕ) : Answer → Type 0 where
  a_ninth : FirstOfQuantity (kind_in ws p) → IsNinth ws p (Err (Number p))
  no_ninth : NoQuantity (kind_in ws p) → IsNinth ws p (Err (NoProgram p))

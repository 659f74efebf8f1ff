-- What a function that reads statements in a row, a block, an ELSE or a program answers; and what the words are that go over a block.
use Rattle.std.specs.Prelude.{Ok, Err, Bool, true, false, List, [], ◌∷◌, ◌≡◌, ℕ, ◌+◌, ◌-◌, ◌≤◌, ◌<◌, length, drop, set, get_or}
use Rattle.definition.proofs.GrammarReads.{Reads, Fails}
use Rattle.definition.specs.Accept.{read_answer}
use Rattle.definition.specs.Answer as Answers
use Rattle.definition.specs.Grammar.{Tree, Program, Statement, MoreStatements, Block, Else}
use Rattle.definition.specs.Reader.{phrase, read_as, read_program}
use Rattle.definition.specs.Syntax.{says, size}
use Rattle.definition.specs.Token.{Token, terminals, place_at, LBRACE, IF, WHILE, FOR, IN, PRINT}
use Rattle.lexer.specs.Tokens.{at_of, NAME}
use Rattle.simple.specs.Statements.{stated, spans, IsStated}
use Rattle.terms.specs.Phrases.{Answer, row_of, token_of, kind_in, seen, Holds, Wrote}
use Rattle.words.specs.Fields.{word, BIND, RANGE, NEXT, TEST, JUMP, AGAIN}
use Rattle.words.specs.Raw.{flat_program}

-- the kinds of tokens that begin a statement
pub data First (k : ℕ) : Type 0 where
  a_name : k ≡ NAME → First k
  an_if : k ≡ IF → First k
  a_while : k ≡ WHILE → First k
  a_for : k ≡ FOR → First k
  a_brace : k ≡ LBRACE → First k
  a_print : k ≡ PRINT → First k

pub record NotFirst (k : ℕ) : Type 0 where
  pub no_name : k ≡ NAME → ⊥
  pub no_if : k ≡ IF → ⊥
  pub no_while : k ≡ WHILE → ⊥
  pub no_for : k ≡ FOR → ⊥
  pub no_brace : k ≡ LBRACE → ⊥
  pub no_print : k ≡ PRINT → ⊥

abbrev pub Begins : ℕ → Bool → Type 0
Begins k true = First k
Begins k false = NotFirst k

-- the tokens from p up to q are one or more statements, and their words stand from n up to m
pub record Sequence (ws : List ℕ) (ts : List Token) (p n d : ℕ) (A A' : List ℕ) (q m : ℕ) : Type 0 where
  pub first : Tree Statement
  pub rest : Tree MoreStatements
  pub at : ℕ
  pub one : Reads d (phrase Statement ∷ []) (drop p (seen ws)) (first, tt) (drop at (seen ws))
  pub more : Reads d (phrase MoreStatements ∷ []) (drop at (seen ws)) (rest, tt) (drop q (seen ws))
  pub here : at ≡ p + size first
  pub wrote : Wrote A n (flat_program (says ts first p (says ts rest at)) n) m A'

abbrev pub sequenced : List ℕ → List Token → ℕ → ℕ → ℕ → List ℕ → List ℕ → Answer → Type 0
sequenced ws ts p n d A A' (Ok (q, m)) = Sequence ws ts p n d A A' q m
sequenced ws ts p n d A A' (Err why) = Fails d (phrase Statement ∷ phrase MoreStatements ∷ []) (drop p (seen ws)) (row_of why) (drop (token_of why) (seen ws))

pub record IsSequence (ws : List ℕ) (p n d : ℕ) (A A' : List ℕ) (r : Answer) : Type 0 where
  pub bounds : spans ws 0 p n r
  pub at : (ts : List Token) → Holds ws ts → sequenced ws ts p n d A A' r

-- a block's braces pay for no word of its statements: two tokens are left
pub record IsBlock (ws : List ℕ) (p n d : ℕ) (A A' : List ℕ) (r : Answer) : Type 0 where
  pub bounds : spans ws 0 (p + 2) n r
  pub at : (ts : List Token) → Holds ws ts → stated Block (λ ts t p n. flat_program (says ts t p) n) ws ts p n d A A' r

abbrev pub IsElse : List ℕ → ℕ → ℕ → ℕ → List ℕ → List ℕ → Answer → Type 0
IsElse = IsStated Else (λ ts t p n. flat_program (says ts t p) n) 0

-- after FOR at p: how many of the tokens up to the set are as they must be; if all, the variable stands at n
pub data Headed (ws : List ℕ) (p n : ℕ) (A A' : List ℕ) : ℕ → Type 0 where
  no_name : (kind_in ws (p + 1) ≡ NAME → ⊥) → Headed ws p n A A' 1
  no_in : kind_in ws (p + 1) ≡ NAME → (kind_in ws (p + 2) ≡ IN → ⊥) → Headed ws p n A A' 2
  headed : kind_in ws (p + 1) ≡ NAME → kind_in ws (p + 2) ≡ IN → A' ≡ set A n (word BIND (p + 1) 0 0) → Headed ws p n A A' 3

-- room for the words m and l over a block between them, and for their places, up to f
pub record Space (ws : List ℕ) (M p m l f : ℕ) : Type 0 where
  pub mark : at_of (get_or ws p 0) < 65536
  pub inside : p < length ws
  pub first : 0 < m
  pub order : m < l
  pub room : l < M
  pub after : l ≤ f
  pub small : f < 65535
  pub few : p < 65535

-- the two words of an IF, whose second block stands from l + 1 up to f, of a WHILE and of a FOR
abbrev pub Tested : List ℕ → ℕ → ℕ → ℕ → ℕ → List ℕ → List ℕ → Type 0
Tested ws p m l f A A' = A' ≡ set (set A l (word JUMP 0 f 0)) m (word TEST 0 (l + 1) (at_of (get_or ws p 0)))

abbrev pub Repeated : List ℕ → ℕ → ℕ → ℕ → List ℕ → List ℕ → Type 0
Repeated ws p m l A A' = A' ≡ set (set A l (word AGAIN (m - 1) (m + 1) 0)) m (word TEST 0 (l + 1) (at_of (get_or ws p 0)))

abbrev pub Ranged : List ℕ → ℕ → ℕ → ℕ → List ℕ → List ℕ → Type 0
Ranged ws p m l A A' = A' ≡ set (set A l (word NEXT (p + 1) (m + 1) 0)) m (word RANGE (p + 1) l (at_of (get_or ws p 0)))

-- all tokens are the program that the definition's reader gives, and its words stand from 0 up to m
pub record Whole (ws : List ℕ) (ts : List Token) (A A' : List ℕ) (m : ℕ) : Type 0 where
  pub tree : Tree Program
  pub reads : read_program (terminals ts) ≡ read_as (tree, tt)
  pub wrote : Wrote A 0 (flat_program (says ts tree) 0) m A'

abbrev pub whole : List ℕ → List Token → List ℕ → List ℕ → Answer → Type 0
whole ws ts A A' (Ok (q, m)) = Whole ws ts A A' m
whole ws ts A A' (Err why) = (n : ℕ) → read_answer n ts (read_program (terminals ts)) ≡ Answers.refused (row_of why) (place_at n ts (token_of why))

abbrev pub ends : List ℕ → Answer → Type 0
ends ws (Ok (q, m)) = (q ≡ length ws) × (m ≤ q)
ends ws (Err why) = token_of why ≤ length ws

pub record IsProgram (ws : List ℕ) (A A' : List ℕ) (r : Answer) : Type 0 where
  pub bounds : ends ws r
  pub at : (ts : List Token) → Holds ws ts → whole ws ts A A' r

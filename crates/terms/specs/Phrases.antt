-- What a function that reads a phrase answers: the tree that the definition's reader has there, with its words written, or its refusal.
use Rattle.std.specs.Prelude.{Result, Ok, Err, List, [], ◌∷◌, map, ◌≡◌, ℕ, zero, suc, ◌+◌, ◌≤◌, ◌<◌, eqb, length, drop, if◌then◌else◌}
use Rattle.std.proofs.lemmas.List.Edits.{sets}
use Rattle.definition.proofs.GrammarReads.{Reads, Fails}
use Rattle.definition.specs.Grammar.{Nonterminal, Tree, Expression, Implication, Disjunction, Conjunction, Negation, Primary, Quantity}
use Rattle.definition.specs.Reader.{phrase}
use Rattle.definition.specs.Syntax as Syntax
use Rattle.definition.specs.Syntax.{says}
use Rattle.definition.specs.Token.{Terminal, Token, terminals}
use Rattle.terms.specs.declared.ParseError.{ParseError}
use Rattle.terms.specs.declared.ParseError.TheVariants.{NoProgram, TooMuch, Number}
use Rattle.words.specs.Raw.{flat}
use Rattle.lexer.specs.Tokens.{terminals_of, kind_of, at_of}

-- the next token and the number of words, or why there is no phrase
abbrev pub Answer : Type 0
Answer = Result (ℕ × ℕ) ParseError

-- the row of a refusal, and its token
abbrev pub row_of : ParseError → ℕ
row_of (NoProgram q) = 10
row_of (TooMuch q) = 13
row_of (Number q) = 19

abbrev pub token_of : ParseError → ℕ
token_of (NoProgram q) = q
token_of (TooMuch q) = q
token_of (Number q) = q

-- the words hold these tokens, their texts aside
pub record Holds (ws : List ℕ) (ts : List Token) : Type 0 where
  pub same : terminals ts ≡ terminals_of 0 ws
  pub places : map (λ t. t.at) ts ≡ map at_of ws

-- what the grammar sees of them
abbrev pub seen : List ℕ → List Terminal
seen ws = terminals_of 0 ws

-- the kind of the token at p; 64 past the last
unfoldable pub kind_in : List ℕ → ℕ → ℕ
kind_in [] p = 64
kind_in (w ∷ ws) zero = kind_of w
kind_in (w ∷ ws) (suc p) = kind_in ws p

-- after the closing token, of kind k
abbrev pub closed : List ℕ → ℕ → Answer → Answer
closed ws k (Ok (q, m)) = if eqb (kind_in ws q) k then (Ok (q + 1, m)) else (Err (NoProgram q))
closed ws k (Err e) = Err e

-- where a function that reads may be called: at a token, with no more words written than tokens read
pub record Room (ws : List ℕ) (M p n d : ℕ) : Type 0 where
  pub small : length ws ≤ 2048
  pub room : length ws ≤ M
  pub place : p ≤ length ws
  pub used : n ≤ p
  pub nest : d ≤ 32

-- the list stands in the array from n up to m, and nothing else changed
pub record Wrote (A : List ℕ) (n : ℕ) (xs : List ℕ) (m : ℕ) (A' : List ℕ) : Type 0 where
  pub is : A' ≡ sets A n xs
  pub many : m ≡ n + length xs

-- what a phrase of an expression says
abbrev pub Meaning : Nonterminal → Type 0
Meaning x = List Token → Tree x → Syntax.Expression

-- the tokens from p up to q are a phrase x, and its words stand from n up to m
pub record Got (x : Nonterminal) (e : Meaning x) (ws : List ℕ) (ts : List Token) (p n d : ℕ) (A A' : List ℕ) (q m : ℕ) : Type 0 where
  pub tree : Tree x
  pub reads : Reads d (phrase x ∷ []) (drop p (seen ws)) (tree, tt) (drop q (seen ws))
  pub wrote : Wrote A n (flat (e ts tree) n) m A'

abbrev pub parsed : (x : Nonterminal) → Meaning x → List ℕ → List Token → ℕ → ℕ → ℕ → List ℕ → List ℕ → Answer → Type 0
parsed x e ws ts p n d A A' (Ok (q, m)) = Got x e ws ts p n d A A' q m
parsed x e ws ts p n d A A' (Err r) = Fails d (phrase x ∷ []) (drop p (seen ws)) (row_of r) (drop (token_of r) (seen ws))

-- how far: each token that is read pays for a word
pub record Paid (ws : List ℕ) (p n q m : ℕ) : Type 0 where
  pub more : n < m
  pub paid : m + p ≤ n + q
  pub within : q ≤ length ws

abbrev pub far : List ℕ → ℕ → ℕ → Answer → Type 0
far ws p n (Ok (q, m)) = Paid ws p n q m
far ws p n (Err e) = token_of e ≤ length ws

-- the answer for a phrase x of an expression from token p on, at level d, where n words are written
pub record Parsed (x : Nonterminal) (e : Meaning x) (ws : List ℕ) (p n d : ℕ) (A A' : List ℕ) (r : Answer) : Type 0 where
  pub bounds : far ws p n r
  pub at : (ts : List Token) → Holds ws ts → parsed x e ws ts p n d A A' r

-- the phrases of an expression, each with what it says
abbrev pub IsExpression : List ℕ → ℕ → ℕ → ℕ → List ℕ → List ℕ → Answer → Type 0
IsExpression = Parsed Expression (λ ts t. says ts t)

abbrev pub IsImplication : List ℕ → ℕ → ℕ → ℕ → List ℕ → List ℕ → Answer → Type 0
IsImplication = Parsed Implication (λ ts t. says ts t)

abbrev pub IsDisjunction : List ℕ → ℕ → ℕ → ℕ → List ℕ → List ℕ → Answer → Type 0
IsDisjunction = Parsed Disjunction (λ ts t. says ts t)

abbrev pub IsConjunction : List ℕ → ℕ → ℕ → ℕ → List ℕ → List ℕ → Answer → Type 0
IsConjunction = Parsed Conjunction (λ ts t. says ts t)

abbrev pub IsNegation : List ℕ → ℕ → ℕ → ℕ → List ℕ → List ℕ → Answer → Type 0
IsNegation = Parsed Negation (λ ts t. says ts t)

abbrev pub IsPrimary : List ℕ → ℕ → ℕ → ℕ → List ℕ → List ℕ → Answer → Type 0
IsPrimary = Parsed Primary (λ ts t. says ts t)

abbrev pub IsQuantity : List ℕ → ℕ → ℕ → ℕ → List ℕ → List ℕ → Answer → Type 0
IsQuantity = Parsed Quantity (λ ts t. says ts t)

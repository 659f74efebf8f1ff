-- What a function that reads a statement, a block or an item answers: the tree that the definition's reader has there, with its words.
use Rattle.std.specs.Prelude.{Ok, Err, List, [], ◌∷◌, ◌++◌, ◌≡◌, ℕ, zero, suc, ◌+◌, ◌-◌, ◌*◌, ◌≤◌, ◌<◌, length, drop, set, get_or}
use Rattle.definition.proofs.GrammarReads.{Reads, Fails}
use Rattle.definition.specs.Grammar.{Nonterminal, Tree, Statement, Item}
use Rattle.definition.specs.Reader.{phrase}
use Rattle.definition.specs.Syntax.{says, end}
use Rattle.definition.specs.Token.{Token, LPAREN, LBRACKET, SEMICOLON, ENDL}
use Rattle.lexer.specs.Tokens.{at_of, NAME, STRING}
use Rattle.terms.specs.declared.ParseError.TheVariants.{NoProgram}
use Rattle.terms.specs.Phrases.{Answer, row_of, token_of, kind_in, seen, Holds, Wrote}
use Rattle.terms.specs.Terms.{leaf_in, IsSign, NoQuantity}
use Rattle.words.specs.Fields.{word, TERM, TRUTH, ASSIGN}
use Rattle.words.specs.Raw.{flat_item, flat_program}

-- the tokens' places fit a field of a word
pub record Places (ws : List ℕ) : Type 0 where
  pub small : (i : ℕ) → at_of (get_or ws i 0) < 65536

-- the words of a phrase, by the number of its first token and the place of its first word
abbrev pub Wording : Nonterminal → Type 0
Wording x = List Token → Tree x → ℕ → ℕ → List ℕ

-- the tokens from p up to q are a phrase x, and its words stand from n up to m
pub record Stated (x : Nonterminal) (w : Wording x) (ws : List ℕ) (ts : List Token) (p n d : ℕ) (A A' : List ℕ) (q m : ℕ) : Type 0 where
  pub tree : Tree x
  pub reads : Reads d (phrase x ∷ []) (drop p (seen ws)) (tree, tt) (drop q (seen ws))
  pub wrote : Wrote A n (w ts tree p n) m A'

abbrev pub stated : (x : Nonterminal) → Wording x → List ℕ → List Token → ℕ → ℕ → ℕ → List ℕ → List ℕ → Answer → Type 0
stated x w ws ts p n d A A' (Ok (q, m)) = Stated x w ws ts p n d A A' q m
stated x w ws ts p n d A A' (Err why) = Fails d (phrase x ∷ []) (drop p (seen ws)) (row_of why) (drop (token_of why) (seen ws))

-- how far: each token that is read pays for a word, and s words are left to pay
pub record Span (ws : List ℕ) (s p n q m : ℕ) : Type 0 where
  pub more : n ≤ m
  pub ahead : p ≤ q
  pub paid : m + p ≤ n + q + s
  pub within : q ≤ length ws

abbrev pub spans : List ℕ → ℕ → ℕ → ℕ → Answer → Type 0
spans ws s p n (Ok (q, m)) = Span ws s p n q m
spans ws s p n (Err why) = token_of why ≤ length ws

pub record IsStated (x : Nonterminal) (w : Wording x) (s : ℕ) (ws : List ℕ) (p n d : ℕ) (A A' : List ℕ) (r : Answer) : Type 0 where
  pub bounds : spans ws s p n r
  pub at : (ts : List Token) → Holds ws ts → stated x w ws ts p n d A A' r

abbrev pub IsStatement : List ℕ → ℕ → ℕ → ℕ → List ℕ → List ℕ → Answer → Type 0
IsStatement = IsStated Statement (λ ts t p n. flat_program (says ts t p end) n) 0

-- an item has a word more than it has tokens: PRINT or its comma pays for it
abbrev pub IsItem : List ℕ → ℕ → ℕ → ℕ → List ℕ → List ℕ → Answer → Type 0
IsItem = IsStated Item (λ ts t p n. flat_item (says ts t) n) 1

-- the words of k terms of an expression with commas between them, the first at p
unfoldable pub terms_in : List ℕ → ℕ → ℕ → List ℕ
terms_in ws p zero = []
terms_in ws p (suc k) = leaf_in ws p TERM ∷ terms_in ws (p + 2) k

-- after an item's expression or quantity: the item's word, of kind k
abbrev pub ItemRoom : ℕ → ℕ → ℕ → ℕ → Answer → Type 0
ItemRoom M k n s (Ok (q, m)) = (m < M) × ((k < 256) × ((n < 65536) × (s < 65536)))
ItemRoom M k n s (Err why) = Unit {0}

abbrev pub ItemClosed : ℕ → ℕ → ℕ → List ℕ → List ℕ → Answer → Answer → Type 0
ItemClosed k n s A A' (Ok (q, m)) r = (r ≡ Ok (q, m + 1)) × (A' ≡ set A m (word k n s 0))
ItemClosed k n s A A' (Err why) r = r ≡ Err why

-- room for the words of `R(t,..);` after its terms
pub record Asserts (ws : List ℕ) (M p n m : ℕ) : Type 0 where
  pub order : n < m
  pub room : m + (m - n - 1) + 2 ≤ M
  pub tokens : p + 2 + 2 * (m - n - 1) < 65536
  pub places : Places ws
  pub inside : p < length ws
  pub small : m + (m - n - 1) < 65536

-- those words: the terms as TRUE's, TRUE, and the assignment
abbrev pub asserted : List ℕ → ℕ → ℕ → ℕ → List ℕ
asserted ws p n m = terms_in ws (p + 2) (m - n - 1) ++ (word TRUTH m (m - n - 1) 0 ∷ word ASSIGN n (m - n - 1) (at_of (get_or ws p 0)) ∷ [])

-- after the expression of an assignment: the semicolon and the assignment's word
pub record FinishSpace (ws : List ℕ) (M p n m l : ℕ) : Type 0 where
  pub places : Places ws
  pub inside : p < length ws
  pub order : n < m
  pub body : m ≤ l
  pub room : l < M
  pub small : l < 65536

abbrev pub FinishRoom : List ℕ → ℕ → ℕ → ℕ → ℕ → Answer → Type 0
FinishRoom ws M p n m (Ok (q, l)) = FinishSpace ws M p n m l
FinishRoom ws M p n m (Err why) = Unit {0}

pub data Ended (ws : List ℕ) (p n m : ℕ) (A A' : List ℕ) (q l : ℕ) : Answer → Type 0 where
  semicolon : kind_in ws q ≡ SEMICOLON → A' ≡ set A l (word ASSIGN n (m - n - 1) (at_of (get_or ws p 0))) → Ended ws p n m A A' q l (Ok (q + 1, l + 1))
  no_semicolon : (kind_in ws q ≡ SEMICOLON → ⊥) → Ended ws p n m A A' q l (Err (NoProgram q))

abbrev pub Finished : List ℕ → ℕ → ℕ → ℕ → List ℕ → List ℕ → Answer → Answer → Type 0
Finished ws p n m A A' (Ok (q, l)) r = Ended ws p n m A A' q l r
Finished ws p n m A A' (Err why) r = r ≡ Err why

-- a token that begins an expression or a quantity, if it begins an item
pub record Unworded (k : ℕ) : Type 0 where
  pub no_name : k ≡ NAME → ⊥
  pub no_string : k ≡ STRING → ⊥
  pub no_label : k ≡ LBRACKET → ⊥
  pub no_endl : k ≡ ENDL → ⊥

-- a token that begins an item, by what follows it: an expression, or a name or string alone
pub data Plainly (ws : List ℕ) (p : ℕ) : Type 0 where
  a_call : kind_in ws p ≡ NAME → kind_in ws (p + 1) ≡ LPAREN → Plainly ws p
  a_compared_name : kind_in ws p ≡ NAME → IsSign (kind_in ws (p + 1)) → Plainly ws p
  a_compared_string : kind_in ws p ≡ STRING → IsSign (kind_in ws (p + 1)) → Plainly ws p
  another : Unworded (kind_in ws p) → NoQuantity (kind_in ws p) → Plainly ws p

pub data Alone (ws : List ℕ) (p : ℕ) : Type 0 where
  a_name_alone : kind_in ws p ≡ NAME → (kind_in ws (p + 1) ≡ LPAREN → ⊥) → (41 ≤ kind_in ws (p + 1) → kind_in ws (p + 1) ≤ 46 → ⊥) → Alone ws p
  a_string_alone : kind_in ws p ≡ STRING → (41 ≤ kind_in ws (p + 1) → kind_in ws (p + 1) ≤ 46 → ⊥) → Alone ws p

pub data Worded : ℕ → ℕ → Type 0 where
  a_name_word : Worded NAME NAME
  a_string_word : Worded STRING STRING

-- Terms, and lists of them in brackets.
use Rattle.std.specs.Prelude.{Ok, Err, Bool, true, false, List, [], ◌∷◌, ◌≡◌, ℕ, ◌+◌, ◌*◌, ◌≤◌, ◌<◌, eqb, length, if◌then◌else◌}
use Rattle.definition.specs.Token.{UNDERSCORE, COMMA, LPAREN, RPAREN, EX, FA, TC, TCFAST, TRUE, FALSE, HASH}
use Rattle.terms.specs.Phrases.{Answer, row_of, token_of, kind_in, Wrote}
use Rattle.words.specs.Fields as Fields
use Rattle.words.specs.Fields.{word, TERM, ANYTHING, TRUTH, FALSITY}
use Rattle.lexer.specs.Tokens.{NAME, STRING, NUMBER, LARGE_NUMBER}

-- the word of a term at token p of kind t, where a name is of kind k; 0 for none. "_" is a term of an expression alone
unfoldable pub leaf_of : ℕ → ℕ → ℕ → ℕ
leaf_of t p k =
    if eqb t NAME then (word k p 0 0)
    else if eqb t STRING then (word (Fields.STRING + k) p 0 0)
    else if eqb t UNDERSCORE then (if eqb k TERM then (word ANYTHING 0 0 0) else 0)
    else 0

abbrev pub leaf_in : List ℕ → ℕ → ℕ → ℕ
leaf_in ws p k = leaf_of (kind_in ws p) p k

-- from p up to q: one or more terms with commas between them, and the closing bracket; their words
pub data Items (ws : List ℕ) (k : ℕ) : ℕ → ℕ → List ℕ → Type 0 where
  last_item : {p : ℕ} → (leaf_in ws p k ≡ 0 → ⊥) → kind_in ws (p + 1) ≡ RPAREN → Items ws k p (p + 2) (leaf_in ws p k ∷ [])
  more_items : {p q : ℕ} {xs : List ℕ} → (leaf_in ws p k ≡ 0 → ⊥) → kind_in ws (p + 1) ≡ COMMA → Items ws k (p + 2) q xs → Items ws k p q (leaf_in ws p k ∷ xs)

-- from p on they fail at q
pub data Broken (ws : List ℕ) (k : ℕ) : ℕ → ℕ → Type 0 where
  no_item : {p : ℕ} → leaf_in ws p k ≡ 0 → Broken ws k p p
  no_comma : {p : ℕ} → (leaf_in ws p k ≡ 0 → ⊥) → (kind_in ws (p + 1) ≡ RPAREN → ⊥) → (kind_in ws (p + 1) ≡ COMMA → ⊥) → Broken ws k p (p + 1)
  later : {p q : ℕ} → (leaf_in ws p k ≡ 0 → ⊥) → kind_in ws (p + 1) ≡ COMMA → Broken ws k (p + 2) q → Broken ws k p q

-- after an opening bracket: no term, or items
pub data Brackets (ws : List ℕ) (k : ℕ) : ℕ → ℕ → List ℕ → Type 0 where
  no_items : {p : ℕ} → kind_in ws p ≡ RPAREN → Brackets ws k p (p + 1) []
  items : {p q : ℕ} {xs : List ℕ} → Items ws k p q xs → Brackets ws k p q xs

-- the list from p up to q: its words are written, and two tokens pay for each
pub record Listed (ws : List ℕ) (k p n : ℕ) (A A' : List ℕ) (q m : ℕ) : Type 0 where
  pub words : List ℕ
  pub brackets : Brackets ws k p q words
  pub wrote : Wrote A n words m A'
  pub more : n ≤ m
  pub far : p < q
  pub paid : 2 * m + p ≤ 2 * n + q
  pub within : q ≤ length ws

pub record Unlisted (ws : List ℕ) (k p q row : ℕ) : Type 0 where
  pub ten : row ≡ 10
  pub unclosed : kind_in ws p ≡ RPAREN → ⊥
  pub broken : Broken ws k p q
  pub within : q ≤ length ws

abbrev pub listed : List ℕ → ℕ → ℕ → ℕ → List ℕ → List ℕ → Answer → Type 0
listed ws k p n A A' (Ok (q, m)) = Listed ws k p n A A' q m
listed ws k p n A A' (Err e) = Unlisted ws k p (token_of e) (row_of e)

pub record IsListed (ws : List ℕ) (k p n : ℕ) (A A' : List ℕ) (r : Answer) : Type 0 where
  pub is : listed ws k p n A A' r

-- TRUE and FALSE, and the kinds of their words
pub data Truth : ℕ → ℕ → Type 0 where
  is_true : Truth TRUE TRUTH
  is_false : Truth FALSE FALSITY

-- a sign
pub record IsSign (k : ℕ) : Type 0 where
  pub low : 41 ≤ k
  pub high : k ≤ 46

-- a token that opens no level
pub record Plain (k : ℕ) : Type 0 where
  pub group : k ≡ LPAREN → ⊥
  pub ex : k ≡ EX → ⊥
  pub fa : k ≡ FA → ⊥
  pub tc : k ≡ TC → ⊥
  pub tcfast : k ≡ TCFAST → ⊥

-- the kinds of tokens that begin a quantity
pub data FirstOfQuantity (k : ℕ) : Type 0 where
  a_count : k ≡ HASH → FirstOfQuantity k
  a_literal : k ≡ NUMBER → FirstOfQuantity k
  a_large_literal : k ≡ LARGE_NUMBER → FirstOfQuantity k

pub record NoQuantity (k : ℕ) : Type 0 where
  pub no_count : k ≡ HASH → ⊥
  pub no_literal : k ≡ NUMBER → ⊥
  pub no_large_literal : k ≡ LARGE_NUMBER → ⊥

abbrev pub OfQuantity : ℕ → Bool → Type 0
OfQuantity k true = FirstOfQuantity k
OfQuantity k false = NoQuantity k

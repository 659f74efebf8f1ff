-- A program whose names, strings and literals are tokens of a list, and whose statements' places are small: so is what was read from a text.
use Rattle.std.specs.Prelude.{◌<◌, ◌≡◌, Bool, List, [], ◌∷◌, length}
use Rattle.definition.specs.Token as Token
use Rattle.definition.specs.Token.{Token, token_at}
use Rattle.definition.specs.Syntax.{Term, name, string, anything, Expression, atom, truth, falsity, compare, matching, negation, conjunction, disjunction, implication, equivalence, exists, for_all, closure_of, compare_relations, literal, count_of, sum_of, ratio_of, compare_figures}
use Rattle.definition.specs.Syntax.{Item, rows, word, line_end, amount, Program, end, assign, print, test, while, for, block}
use Rattle.words.specs.Raw.{number}

module _ (ts : List Token) where
  -- an identifier, a string, or a literal, of the list, under its own number
  pub record OwnName (t : Token) : Type 0 where
    pub found : token_at ts (number t) ≡ t
    pub inside : number t < length ts
    pub is_name : t.terminal ≡ Token.name (number t)

  pub record OwnString (t : Token) : Type 0 where
    pub found : token_at ts (number t) ≡ t
    pub inside : number t < length ts
    pub is_string : t.terminal ≡ Token.string (number t)

  pub record OwnLiteral (t : Token) : Type 0 where
    pub found : token_at ts (number t) ≡ t
    pub inside : number t < length ts
    pub over : Bool
    pub is_number : t.terminal ≡ Token.number over (number t)

  abbrev pub OwnTerm : Term → Type 0
  OwnTerm (name t) = OwnName t
  OwnTerm (string t) = OwnString t
  OwnTerm anything = Unit {0}

  unfoldable pub OwnTerms : List Term → Type 0
  OwnTerms [] = Unit {0}
  OwnTerms (p ∷ ps) = OwnTerm p × OwnTerms ps

  unfoldable pub OwnExpression : Expression → Type 0
  OwnExpression (atom r ps) = OwnName r × OwnTerms ps
  OwnExpression (truth ps) = OwnTerms ps
  OwnExpression (falsity ps) = OwnTerms ps
  OwnExpression (compare g p q) = OwnTerms (p ∷ q ∷ [])
  OwnExpression (matching s p) = OwnString s × OwnTerms (p ∷ [])
  OwnExpression (negation e) = OwnExpression e
  OwnExpression (conjunction a b) = OwnExpression a × OwnExpression b
  OwnExpression (disjunction a b) = OwnExpression a × OwnExpression b
  OwnExpression (implication a b) = OwnExpression a × OwnExpression b
  OwnExpression (equivalence a b) = OwnExpression a × OwnExpression b
  OwnExpression (exists x e) = OwnName x × OwnExpression e
  OwnExpression (for_all x e) = OwnName x × OwnExpression e
  OwnExpression (closure_of e) = OwnExpression e
  OwnExpression (compare_relations g a b) = OwnExpression a × OwnExpression b
  OwnExpression (literal t) = OwnLiteral t
  OwnExpression (count_of e) = OwnExpression e
  OwnExpression (sum_of a b) = OwnExpression a × OwnExpression b
  OwnExpression (ratio_of a b) = OwnExpression a × OwnExpression b
  OwnExpression (compare_figures g a b) = OwnExpression a × OwnExpression b

  unfoldable pub OwnItem : Item → Type 0
  OwnItem (rows ps e) = OwnTerms ps × OwnExpression e
  OwnItem (word p) = OwnTerms (p ∷ [])
  OwnItem line_end = Unit {0}
  OwnItem (amount e) = OwnExpression e

  unfoldable pub OwnItems : List Item → Type 0
  OwnItems [] = Unit {0}
  OwnItems (i ∷ is) = OwnItem i × OwnItems is

  unfoldable pub OwnProgram : Program → Type 0
  OwnProgram end = Unit {0}
  OwnProgram (assign i r ps e k) = (i < 65536) × OwnName r × OwnTerms ps × OwnExpression e × OwnProgram k
  OwnProgram (print i is k) = (i < 65536) × OwnItems is × OwnProgram k
  OwnProgram (test i e a b k) = (i < 65536) × OwnExpression e × OwnProgram a × OwnProgram b × OwnProgram k
  OwnProgram (while i e a k) = (i < 65536) × OwnExpression e × OwnProgram a × OwnProgram k
  OwnProgram (for i v e a k) = (i < 65536) × OwnName v × OwnExpression e × OwnProgram a × OwnProgram k
  OwnProgram (block a k) = OwnProgram a × OwnProgram k

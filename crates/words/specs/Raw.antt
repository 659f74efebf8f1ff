-- The words of a program, before names are looked up: names and strings stand in the order of their tokens, each by its token's number;
-- the word of an expression, an item or a statement stands after the words of its parts.
use Rattle.std.specs.Prelude.{ℕ, ◌+◌, ◌-◌, List, [], ◌∷◌, ◌++◌, length}
use Rattle.definition.specs.Token as Token
use Rattle.definition.specs.Token.{Sign, equal, unequal, less, at_most, greater, at_least, Terminal, Token}
use Rattle.definition.specs.Syntax.{Term, name, string, anything, Expression, atom, truth, falsity, compare, matching, negation, conjunction, disjunction, implication, equivalence, exists, for_all, closure_of, compare_relations, literal, count_of, sum_of, ratio_of, compare_figures}
use Rattle.definition.specs.Syntax as Syntax
use Rattle.definition.specs.Syntax.{Item, rows, line_end, amount, Program, end, assign, print, test, while, for, block}
use Rattle.words.specs.Fields.{word, RELATION_NAME, ATTRIBUTE, TERM, WORD, BIND, RANGE, NEXT, ANYTHING, ATOM, TRUTH, FALSITY, ORDER, NEGATION, CONJUNCTION, DISJUNCTION, IMPLICATION, EQUIVALENCE, EXISTS, FOR_ALL, CLOSURE, COMPARISON, MATCH, COUNT, LITERAL, SUM, RATIO, FIGURES, ROWS, SAY, LINE_END, ASSIGN, TEST, JUMP, AGAIN, PRINT, AMOUNT, STRING}

-- an identifier's, a string's or a literal's number among the tokens
abbrev pub terminal_number : Terminal → ℕ
terminal_number (Token.name i) = i
terminal_number (Token.string i) = i
terminal_number (Token.number o i) = i
terminal_number (Token.sign g) = 0
terminal_number (Token.key k) = 0

abbrev pub number : Token → ℕ
number t = terminal_number t.terminal

abbrev pub sign_number : Sign → ℕ
sign_number equal = 0
sign_number unequal = 1
sign_number less = 2
sign_number at_most = 3
sign_number greater = 4
sign_number at_least = 5

-- a term, where a name is of kind k
abbrev pub leaf : ℕ → Term → ℕ
leaf k (name t) = word k (number t) 0 0
leaf k (string t) = word (STRING + k) (number t) 0 0
leaf k anything = word ANYTHING 0 0 0

unfoldable pub leaves : ℕ → List Term → List ℕ
leaves k [] = []
leaves k (p ∷ ps) = leaf k p ∷ leaves k ps

-- how many words an expression has
unfoldable pub size : Expression → ℕ
size (atom r ps) = length ps + 2
size (truth ps) = length ps + 1
size (falsity ps) = length ps + 1
size (compare g p q) = 3
size (matching s p) = 4
size (negation e) = size e + 1
size (conjunction a b) = size a + size b + 1
size (disjunction a b) = size a + size b + 1
size (implication a b) = size a + size b + 1
size (equivalence a b) = size a + size b + 1
size (exists x e) = size e + 2
size (for_all x e) = size e + 2
size (closure_of e) = size e + 1
size (compare_relations g a b) = size a + size b + 1
size (literal t) = 1
size (count_of e) = size e + 1
size (sum_of a b) = size a + size b + 1
size (ratio_of a b) = size a + size b + 1
size (compare_figures g a b) = size a + size b + 1

-- an operator over the expressions that end before the places m and l
abbrev pub over : ℕ → ℕ → ℕ → ℕ → ℕ
over k m l r = word k (m - 1) (l - 1) r

-- the words of an expression from the place n on, its own last: an atom has the place of its first word and the number of its terms, an
-- operator the places of its operands' own words, a quantifier that of its attribute and that of its operand; a pattern's term is in the half
-- of the matching elements below 32 or in the half from 32 on, each with its first element and the term's place
unfoldable pub flat : Expression → ℕ → List ℕ
flat (atom r ps) n = word RELATION_NAME (number r) (length ps) 0 ∷ (leaves TERM ps ++ (word ATOM n (length ps) 0 ∷ []))
flat (truth ps) n = leaves TERM ps ++ (word TRUTH n (length ps) 0 ∷ [])
flat (falsity ps) n = leaves TERM ps ++ (word FALSITY n (length ps) 0 ∷ [])
flat (compare g p q) n = leaf TERM p ∷ leaf TERM q ∷ word ORDER n (sign_number g) 0 ∷ []
flat (matching s p) n = leaf TERM p ∷ word MATCH (number s) 0 n ∷ word MATCH (number s) 32 n ∷ over DISJUNCTION (n + 2) (n + 3) 0 ∷ []
flat (negation e) n = flat e n ++ (word NEGATION (n + size e - 1) 0 0 ∷ [])
flat (conjunction a b) n = flat a n ++ (flat b (n + size a) ++ (over CONJUNCTION (n + size a) (n + size a + size b) 0 ∷ []))
flat (disjunction a b) n = flat a n ++ (flat b (n + size a) ++ (over DISJUNCTION (n + size a) (n + size a + size b) 0 ∷ []))
flat (implication a b) n = flat a n ++ (flat b (n + size a) ++ (over IMPLICATION (n + size a) (n + size a + size b) 0 ∷ []))
flat (equivalence a b) n = flat a n ++ (flat b (n + size a) ++ (over EQUIVALENCE (n + size a) (n + size a + size b) 0 ∷ []))
flat (exists x e) n = word ATTRIBUTE (number x) 0 0 ∷ (flat e (n + 1) ++ (word EXISTS n (n + size e) 0 ∷ []))
flat (for_all x e) n = word ATTRIBUTE (number x) 0 0 ∷ (flat e (n + 1) ++ (word FOR_ALL n (n + size e) 0 ∷ []))
flat (closure_of e) n = flat e n ++ (word CLOSURE (n + size e - 1) 0 0 ∷ [])
flat (compare_relations g a b) n = flat a n ++ (flat b (n + size a) ++ (over COMPARISON (n + size a) (n + size a + size b) (sign_number g) ∷ []))
flat (literal t) n = word LITERAL (number t) 0 0 ∷ []
flat (count_of e) n = flat e n ++ (word COUNT (n + size e - 1) 0 0 ∷ [])
flat (sum_of a b) n = flat a n ++ (flat b (n + size a) ++ (over SUM (n + size a) (n + size a + size b) 0 ∷ []))
flat (ratio_of a b) n = flat a n ++ (flat b (n + size a) ++ (over RATIO (n + size a) (n + size a + size b) 0 ∷ []))
flat (compare_figures g a b) n = flat a n ++ (flat b (n + size a) ++ (over FIGURES (n + size a) (n + size a + size b) (sign_number g) ∷ []))

unfoldable pub size_item : Item → ℕ
size_item (rows ps e) = length ps + (size e + 1)
size_item (Syntax.word p) = 2
size_item line_end = 1
size_item (amount e) = size e + 1

-- an item: its label, if any, then its expression; the item's own word has the place of its first word and the number of labels
unfoldable pub flat_item : Item → ℕ → List ℕ
flat_item (rows ps e) n = leaves WORD ps ++ (flat e (n + length ps) ++ (word ROWS n (length ps) 0 ∷ []))
flat_item (Syntax.word p) n = leaf WORD p ∷ word SAY n 0 0 ∷ []
flat_item line_end n = word LINE_END 0 0 0 ∷ []
flat_item (amount e) n = flat e n ++ (word AMOUNT n 0 0 ∷ [])

unfoldable pub size_items : List Item → ℕ
size_items [] = 0
size_items (i ∷ is) = size_item i + size_items is

unfoldable pub flat_items : List Item → ℕ → List ℕ
flat_items [] n = []
flat_items (i ∷ is) n = flat_item i n ++ flat_items is (n + size_item i)

unfoldable pub size_program : Program → ℕ
size_program end = 0
size_program (assign i r ps e k) = 1 + length ps + size e + 1 + size_program k
size_program (print i is k) = size_items is + 1 + size_program k
size_program (test i e a b k) = size e + 1 + size_program a + 1 + size_program b + size_program k
size_program (while i e a k) = size e + 1 + size_program a + 1 + size_program k
size_program (for i v e a k) = 1 + size e + 1 + size_program a + 1 + size_program k
size_program (block a k) = size_program a + size_program k

-- the words of a program from the place n on. Every word but a statement's own is passed over when the program runs. A statement's own
-- word stands just after the word of its expression and has the statement's place in the text; a move that takes no step goes forward:
-- a WHILE's test stands again after its block, a FOR's set goes to NEXT, which goes back to the block while an element is left
unfoldable pub flat_program : Program → ℕ → List ℕ
flat_program end n = []
flat_program (assign i r ps e k) n =
    let m = n + 1 + length ps + size e in
    word RELATION_NAME (number r) (length ps) 0 ∷ (leaves ATTRIBUTE ps ++ (flat e (n + 1 + length ps) ++ (word ASSIGN n (length ps) i ∷ flat_program k (m + 1))))
flat_program (print i is k) n = flat_items is n ++ (word PRINT n 0 i ∷ flat_program k (n + size_items is + 1))
flat_program (test i e a b k) n =
    let m = n + size e + 1 in
    let l = m + size_program a + 1 in
    let f = l + size_program b in
    flat e n ++ (word TEST 0 l i ∷ (flat_program a m ++ (word JUMP 0 f 0 ∷ (flat_program b l ++ flat_program k f))))
flat_program (while i e a k) n =
    let m = n + size e + 1 in
    let l = m + size_program a + 1 in
    flat e n ++ (word TEST 0 l i ∷ (flat_program a m ++ (word AGAIN (n + size e - 1) m 0 ∷ flat_program k l)))
flat_program (for i v e a k) n =
    let m = n + 1 + size e + 1 in
    let l = m + size_program a in
    word BIND (number v) 0 0 ∷ (flat e (n + 1) ++ (word RANGE (number v) l i ∷ (flat_program a m ++ (word NEXT (number v) m 0 ∷ flat_program k (l + 1)))))
flat_program (block a k) n = flat_program a n ++ flat_program k (n + size_program a)

-- A word of a parsed program: a kind and three numbers below 65,536; and the kinds.
use Rattle.std.specs.Prelude.{ℕ, ◌+◌, ◌*◌, ◌/◌, ◌%◌}

abbrev pub word : ℕ → ℕ → ℕ → ℕ → ℕ
word k p q r = k + p * 256 + q * 16777216 + r * 1099511627776

abbrev pub kind_of : ℕ → ℕ
kind_of w = w % 256

abbrev pub p_of : ℕ → ℕ
p_of w = w / 256 % 65536

abbrev pub q_of : ℕ → ℕ
q_of w = w / 16777216 % 65536

abbrev pub r_of : ℕ → ℕ
r_of w = w / 1099511627776 % 65536

-- names, by what their place takes: a relation; an attribute alone; an attribute or a loop variable; a loop variable alone
abbrev pub RELATION_NAME : ℕ
RELATION_NAME = 1

abbrev pub ATTRIBUTE : ℕ
ATTRIBUTE = 2

abbrev pub TERM : ℕ
TERM = 3

abbrev pub WORD : ℕ
WORD = 4

-- the name after FOR; a FOR's set, where its variable comes to life; its next element, where it ends
abbrev pub BIND : ℕ
BIND = 5

abbrev pub RANGE : ℕ
RANGE = 6

abbrev pub NEXT : ℕ
NEXT = 7

-- "_" as a term
abbrev pub ANYTHING : ℕ
ANYTHING = 9

-- expressions
abbrev pub ATOM : ℕ
ATOM = 10

abbrev pub TRUTH : ℕ
TRUTH = 11

abbrev pub FALSITY : ℕ
FALSITY = 12

abbrev pub ORDER : ℕ
ORDER = 13

abbrev pub NEGATION : ℕ
NEGATION = 14

abbrev pub CONJUNCTION : ℕ
CONJUNCTION = 15

abbrev pub DISJUNCTION : ℕ
DISJUNCTION = 16

abbrev pub IMPLICATION : ℕ
IMPLICATION = 17

abbrev pub EQUIVALENCE : ℕ
EQUIVALENCE = 18

abbrev pub EXISTS : ℕ
EXISTS = 19

abbrev pub FOR_ALL : ℕ
FOR_ALL = 20

abbrev pub CLOSURE : ℕ
CLOSURE = 21

abbrev pub COMPARISON : ℕ
COMPARISON = 22

-- half of the elements that match a pattern
abbrev pub MATCH : ℕ
MATCH = 23

-- quantities: how many assignments make an expression true; a whole literal; a sum; a sum over a sum; and a sign between two of them
abbrev pub COUNT : ℕ
COUNT = 24

abbrev pub LITERAL : ℕ
LITERAL = 25

abbrev pub SUM : ℕ
SUM = 26

abbrev pub RATIO : ℕ
RATIO = 27

abbrev pub FIGURES : ℕ
FIGURES = 28

-- items: a quantity; rows; a word by itself; ENDL
abbrev pub AMOUNT : ℕ
AMOUNT = 29

abbrev pub ROWS : ℕ
ROWS = 30

abbrev pub SAY : ℕ
SAY = 31

abbrev pub LINE_END : ℕ
LINE_END = 32

-- statements: an assignment; a test that goes on at its target if false; a jump; a WHILE's test again, which goes on at its target if true; a PRINT
abbrev pub ASSIGN : ℕ
ASSIGN = 33

abbrev pub TEST : ℕ
TEST = 34

abbrev pub JUMP : ℕ
JUMP = 35

abbrev pub AGAIN : ℕ
AGAIN = 36

abbrev pub PRINT : ℕ
PRINT = 37

-- a string stands under 40 and the kind that a name has there
abbrev pub STRING : ℕ
STRING = 40

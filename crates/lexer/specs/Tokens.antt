-- A token as one word of 64 bits: its kind, the length of its text and the place of its first byte.
use Rattle.std.specs.Prelude.{true, false, List, [], ◌∷◌, ℕ, suc, ◌+◌, ◌/◌, ◌%◌, ◌≤◌, ◌<◌, eqb, ltb, length, take, drop, get_or, if◌then◌else◌}
use Rattle.definition.specs.Text.{Text}
use Rattle.definition.specs.Token.{Sign, equal, unequal, less, at_most, greater, at_least, Terminal, name, string, number, sign, key, Token}

-- "identifiers; reserved words; strings in double quotes ..": the kinds 0 to 40 and 49 to 52 are the definition's keys; 41 to 46 are the six signs, then come an identifier and a string; a run of digits is of one kind up to 999,999 and of another above
abbrev pub FIRST_SIGN : ℕ
FIRST_SIGN = 41

abbrev pub NAME : ℕ
NAME = 47

abbrev pub STRING : ℕ
STRING = 48

abbrev pub NUMBER : ℕ
NUMBER = 53

abbrev pub LARGE_NUMBER : ℕ
LARGE_NUMBER = 54

unfoldable pub sign_of : ℕ → Sign
sign_of k =
    if eqb k 41 then equal
    else if eqb k 42 then unequal
    else if eqb k 43 then less
    else if eqb k 44 then at_most
    else if eqb k 45 then greater
    else at_least

-- what the grammar sees of a token of a kind, by the token's number; the lexer writes no kind past the last
unfoldable pub terminal_of : ℕ → ℕ → Terminal
terminal_of k i =
    if ltb k FIRST_SIGN then (key k)
    else if eqb k NAME then (name i)
    else if eqb k STRING then (string i)
    else if eqb k NUMBER then (number false i)
    else if eqb k LARGE_NUMBER then (number true i)
    else if ltb STRING k then (key k)
    else (sign (sign_of k))

-- the parts of a word
abbrev pub kind_of : ℕ → ℕ
kind_of w = w % 64

abbrev pub size_of : ℕ → ℕ
size_of w = w / 64 % 64

abbrev pub at_of : ℕ → ℕ
at_of w = w / 4096

-- a string's text begins after its opening quote
unfoldable pub quote_of : ℕ → ℕ
quote_of k = if eqb k STRING then 1 else 0

-- the text of a word's token begins here
abbrev pub start_of : ℕ → ℕ
start_of w = at_of w + quote_of (kind_of w)

-- the token that a word holds, in a query, by the token's number
abbrev pub token_of : Text → ℕ → ℕ → Token
token_of query i w = record { terminal = terminal_of (kind_of w) i; text = take (size_of w) (drop (start_of w) query); at = at_of w }

-- the tokens that words hold, from number i on
unfoldable pub tokens_of : Text → ℕ → List ℕ → List Token
tokens_of query i [] = []
tokens_of query i (w ∷ ws) = token_of query i w ∷ tokens_of query (suc i) ws

-- what the grammar sees of them
unfoldable pub terminals_of : ℕ → List ℕ → List Terminal
terminals_of i [] = []
terminals_of i (w ∷ ws) = terminal_of (kind_of w) i ∷ terminals_of (suc i) ws

-- the text of each word's token lies within the query
abbrev pub Inside : Text → List ℕ → Type 0
Inside query ws = (i : ℕ) → i < length ws → start_of (get_or ws i 0) + size_of (get_or ws i 0) ≤ length query

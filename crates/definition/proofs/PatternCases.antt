-- Patterns and elements: what matches, what does not, and what is malformed, by computation.
use mathlib.Core.Bool.{Bool, true, false, ◌&&◌, not}
use mathlib.Core.List.{List, [], ◌∷◌}
use mathlib.Core.Option.{Option, some, none}
use Prim.Native.String.{String}
use lib.Dec.{T}
use Rattle.definition.specs.Text.{ascii, all_of}
use Rattle.definition.specs.Everything.{everything}
use Rattle.definition.specs.Pattern.{Pattern, read_pattern, found_in}

-- a pattern, elements that match it and elements that do not
pub record Case : Type 0 where
  pub pattern : String
  pub matching : List String
  pub other : List String

abbrev pub case : String → List String → List String → Case
case s es fs = record { pattern = s; matching = es; other = fs }

abbrev pub is_read : Option Pattern → Bool
is_read none = false
is_read (some p) = true

-- the pattern is read, and each element is found or not as it should be
unfoldable pub holds : Case → Bool
unfolding everything
holds c =
    let p = read_pattern (ascii c.pattern) in
    is_read p && all_of (λ e. found_in p (ascii e)) c.matching && all_of (λ e. not (found_in p (ascii e))) c.other

unfoldable pub malformed : String → Bool
unfolding everything
malformed s = not (is_read (read_pattern (ascii s)))

unfoldable pub cases : List Case
cases =
    -- anchors
    case "^C1" ("C1" ∷ "C10" ∷ []) ("AC1" ∷ "C" ∷ "" ∷ [])
    ∷ case "C1$" ("C1" ∷ "AC1" ∷ []) ("C10" ∷ [])
    ∷ case "^C1$" ("C1" ∷ []) ("C1C1" ∷ "C1 " ∷ [])
    ∷ case "C1" ("AC10" ∷ "C1" ∷ []) ("C" ∷ "c1" ∷ [])
    ∷ case "^$" ("" ∷ []) ("a" ∷ [])
    ∷ case "$^" ("" ∷ []) ("a" ∷ [])
    ∷ case "a^b" [] ("ab" ∷ "a^b" ∷ [])
    ∷ case "(^)*a" ("ba" ∷ "a" ∷ []) ("b" ∷ [])
    ∷ case "(^a)*b" ("aab" ∷ "b" ∷ []) ("a" ∷ [])
    ∷ case "^(^a)*b" ("ab" ∷ "b" ∷ []) ("aab" ∷ "cb" ∷ [])
    ∷ case "a|^b$" ("b" ∷ "ca" ∷ []) ("cb" ∷ "bc" ∷ [])
    -- characters, any byte, the backslash
    ∷ case "." ("a" ∷ "\t" ∷ []) ("" ∷ [])
    ∷ case "^a.c$" ("abc" ∷ "a.c" ∷ "a c" ∷ []) ("ac" ∷ "abbc" ∷ [])
    ∷ case "]}-," ("]}-," ∷ []) ("]}," ∷ [])
    ∷ case "\\.\\*" (".*" ∷ []) ("ab" ∷ "*." ∷ [])
    ∷ case "\\a\\\\" ("a\\" ∷ []) ("\\a" ∷ [])
    ∷ case "\\^\\$" ("^$" ∷ []) ("" ∷ [])
    ∷ case "\\{1,2\\}" ("{1,2}" ∷ []) ("1" ∷ [])
    -- sets
    ∷ case "^[a-c]$" ("a" ∷ "b" ∷ "c" ∷ []) ("d" ∷ "-" ∷ "" ∷ [])
    ∷ case "[^a-c]" ("d" ∷ "ad" ∷ []) ("abc" ∷ "" ∷ [])
    ∷ case "[]a]" ("]" ∷ "a" ∷ []) ("[" ∷ [])
    ∷ case "^[^]a]$" ("[" ∷ "^" ∷ []) ("]" ∷ "a" ∷ [])
    ∷ case "^[a-]$" ("a" ∷ "-" ∷ []) ("]" ∷ "b" ∷ [])
    ∷ case "^[-a]$" ("a" ∷ "-" ∷ []) ("b" ∷ [])
    ∷ case "^[--a]$" ("-" ∷ "A" ∷ "a" ∷ []) ("b" ∷ "," ∷ [])
    ∷ case "^[]-a]$" ("]" ∷ "_" ∷ "a" ∷ []) ("-" ∷ "b" ∷ [])
    ∷ case "^[]-]$" ("]" ∷ "-" ∷ []) ("a" ∷ [])
    ∷ case "^[a-c-e]$" ("b" ∷ "-" ∷ "e" ∷ []) ("d" ∷ [])
    ∷ case "^[a-a]$" ("a" ∷ []) ("b" ∷ [])
    ∷ case "^[\\.]$" ("\\" ∷ "." ∷ []) ("a" ∷ [])
    ∷ case "^[a^]$" ("a" ∷ "^" ∷ []) ("b" ∷ [])
    ∷ case "^[^^]$" ("a" ∷ []) ("^" ∷ [])
    ∷ case "^[[]$" ("[" ∷ []) ("]" ∷ [])
    ∷ case "^[:a]$" (":" ∷ "a" ∷ []) ("b" ∷ [])
    ∷ case "^[*|(]+$" ("*|(" ∷ []) (")" ∷ [])
    -- repeats
    ∷ case "^ab*$" ("a" ∷ "abbb" ∷ []) ("aba" ∷ "b" ∷ [])
    ∷ case "^ab+$" ("ab" ∷ "abb" ∷ []) ("a" ∷ [])
    ∷ case "^ab?$" ("a" ∷ "ab" ∷ []) ("abb" ∷ [])
    ∷ case "^a{2,3}$" ("aa" ∷ "aaa" ∷ []) ("a" ∷ "aaaa" ∷ [])
    ∷ case "^a{0,0}$" ("" ∷ []) ("a" ∷ [])
    ∷ case "^a{0,1}b{8,8}$" ("bbbbbbbb" ∷ "abbbbbbbb" ∷ []) ("bbbbbbb" ∷ "bbbbbbbbb" ∷ [])
    ∷ case "^(ab{1,2}){2,2}$" ("abab" ∷ "abbab" ∷ []) ("ab" ∷ "abbbab" ∷ [])
    ∷ case "^((a*)*b)*$" ("" ∷ "aabb" ∷ []) ("aa" ∷ [])
    ∷ case "^(a*)+$" ("" ∷ "aa" ∷ []) ("b" ∷ [])
    -- groups and branches
    ∷ case "^(ab|c)d$" ("abd" ∷ "cd" ∷ []) ("d" ∷ "abcd" ∷ [])
    ∷ case "^(a|b|cd)*$" ("abcd" ∷ "" ∷ []) ("abc" ∷ [])
    ∷ case "ab|cd" ("xaby" ∷ "cd" ∷ []) ("ad" ∷ "ac" ∷ [])
    ∷ case "((a))" ("a" ∷ []) ("b" ∷ [])
    ∷ []

unfoldable pub malformed_ones : List String
malformed_ones =
    -- empty patterns, branches and groups
    "" ∷ "()" ∷ "a|" ∷ "|a" ∷ "a||b" ∷ "(a|)" ∷ "(|a)" ∷ "|"
    -- groups that do not close or open
    ∷ "(a" ∷ "a)" ∷ ")" ∷ "(" ∷ "((a)"
    -- repeat signs with nothing to repeat, after an anchor, or two in a row
    ∷ "*a" ∷ "*" ∷ "+" ∷ "?" ∷ "(*a)" ∷ "a|*" ∷ "^*" ∷ "$+" ∷ "^{1,2}" ∷ "a**" ∷ "a+?" ∷ "a{1,2}{1,2}" ∷ "a{1,2}*"
    -- braces
    ∷ "{1,2}" ∷ "{" ∷ "a{" ∷ "a{1}" ∷ "a{1,}" ∷ "a{,1}" ∷ "a{2,1}" ∷ "a{9,9}" ∷ "a{1,9}" ∷ "a{1,2" ∷ "a{01,2}" ∷ "a{a,b}" ∷ "a{1;2}"
    -- a trailing backslash
    ∷ "\\" ∷ "a\\"
    -- sets
    ∷ "[" ∷ "[]" ∷ "[^" ∷ "[^]" ∷ "[a" ∷ "[]a" ∷ "[b-a]" ∷ "[a-c-b-a]" ∷ "[[:alpha:]]" ∷ "[[.a.]]" ∷ "[[=a=]]" ∷ "[^[:a]" ∷ "[a[:]" ∷ "[!-[:]"
    ∷ []

-- the cases by computation
pub cases_hold : T (all_of holds cases)
unfolding holds all_of cases
cases_hold = tt

pub malformed_hold : T (all_of malformed malformed_ones)
unfolding malformed all_of malformed_ones
malformed_hold = tt

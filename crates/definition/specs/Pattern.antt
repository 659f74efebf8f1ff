-- Patterns: what strings a pattern describes and which elements match it, how it is spelled, and the two as functions (row 18).
use Rattle.std.specs.Prelude.{◌≡◌, Bool, true, false, ◌&&◌, ◌||◌, not, List, [], ◌∷◌, ◌++◌, ℕ, zero, suc, ◌+◌, ◌-◌, ◌*◌, T, leb, eqb, length, get_or, drop, if◌then◌else◌}
use Rattle.std.proofs.Math.Option.{Option, some, none}
use Rattle.definition.specs.Text.{Text, ascii, some_of, below, starts, between}
use Rattle.definition.specs.Tables.{holds, table, closure}

-- What a pattern describes.

-- the bytes from the first to the last
pub record Range : Type 0 where
  pub first : ℕ
  pub last : ℕ

abbrev pub range : ℕ → ℕ → Range
range a b = record { first = a; last = b }

pub data Pattern : Type 0 where
  -- the empty string: anywhere, at the element's start (`^`), at its end (`$`)
  empty start end : Pattern
  -- one byte of the ranges, or (true) one of no range
  one : Bool → List Range → Pattern
  -- one after the other; one or the other; any number, one after another
  sequence choice : Pattern → Pattern → Pattern
  star : Pattern → Pattern

-- a byte is in one of the ranges; in the set, or (true) in its complement
unfoldable pub in_ranges : List Range → ℕ → Bool
in_ranges rs x = some_of (λ (r : Range). between r.first r.last x) rs

unfoldable pub in_set : Bool → List Range → ℕ → Bool
in_set false rs x = in_ranges rs x
in_set true rs x = not (in_ranges rs x)

abbrev pub is_empty : Text → Bool
is_empty [] = true
is_empty (x ∷ xs) = false

-- "the set of strings a pattern describes": Describes p a x b says that x is one of p's where x stands at the element's start (a) or
-- after a byte of it, and at its end (b) or before one
pub data Describes : Pattern → Bool → Text → Bool → Type 0 where
  nothing : {a b : Bool} → Describes empty a [] b
  at_start : {b : Bool} → Describes start true [] b
  at_end : {a : Bool} → Describes end a [] true
  byte : {c : Bool} {rs : List Range} {a : Bool} {x : ℕ} {b : Bool} → T (in_set c rs x) → Describes (one c rs) a (x ∷ []) b
  -- the first stands at the end only where the second is empty and does, the second at the start only where the first is empty and does
  both : {p q : Pattern} {a : Bool} {x y : Text} {b : Bool} → Describes p a x (is_empty y && b) → Describes q (a && is_empty x) y b → Describes (sequence p q) a (x ++ y) b
  left : {p q : Pattern} {a : Bool} {x : Text} {b : Bool} → Describes p a x b → Describes (choice p q) a x b
  right : {p q : Pattern} {a : Bool} {x : Text} {b : Bool} → Describes q a x b → Describes (choice p q) a x b
  no_more : {p : Pattern} {a b : Bool} → Describes (star p) a [] b
  once_more : {p : Pattern} {a : Bool} {x y : Text} {b : Bool} → Describes p a x (is_empty y && b) → Describes (star p) (a && is_empty x) y b → Describes (star p) a (x ++ y) b

-- "match .. anywhere inside": some part of the element is described where it stands
pub record Matches (p : Pattern) (e : Text) : Type 0 where
  pub before : Text
  pub part : Text
  pub after : Text
  pub whole : before ++ (part ++ after) ≡ e
  pub described : Describes p (is_empty before) part (is_empty after)

-- How a pattern is spelled.

-- a byte as itself
abbrev pub just : ℕ → Pattern
just x = one false (range x x ∷ [])

-- up to k copies; m copies, then up to k more
unfoldable pub up_to : ℕ → Pattern → Pattern
up_to zero p = empty
up_to (suc k) p = choice empty (sequence p (up_to k p))

unfoldable pub times : ℕ → ℕ → Pattern → Pattern
times zero k p = up_to k p
times (suc m) k p = sequence p (times m k p)

-- the repeat signs, and what each makes of a pattern
pub data Repeat : Type 0 where
  any_number one_or_more at_most_one : Repeat
  from_to : ℕ → ℕ → Repeat

unfoldable pub repeated_by : Repeat → Pattern → Pattern
repeated_by any_number p = star p
repeated_by one_or_more p = sequence p (star p)
repeated_by at_most_one p = choice empty p
repeated_by (from_to m n) p = times m (n - m) p

-- how a repeat sign is spelled: "`{m,n}` with 0 <= m <= n <= 8, one digit each, `+`, `*`, `?`"
pub data RepeatSign : Text → Repeat → Type 0 where
  an_asterisk : RepeatSign (ascii "*") any_number
  a_plus : RepeatSign (ascii "+") one_or_more
  a_question_mark : RepeatSign (ascii "?") at_most_one
  braces : {m n : ℕ} → T (leb m n && leb n 8) → RepeatSign (ascii "{" ++ ((48 + m) ∷ ascii "," ++ ((48 + n) ∷ ascii "}"))) (from_to m n)

-- "Outside sets every byte but `^$.[(){|+*?\` is a character"
unfoldable pub is_character : ℕ → Bool
is_character x = not (some_of (eqb x) (ascii "^$.[(){|+*?\\"))

-- "`[:`, `[.` and `[=` anywhere inside it are malformed": none of them stands in a text
unfoldable pub no_class : Text → Bool
no_class [] = true
no_class (x ∷ xs) =
    let r = no_class xs in not (eqb x 91 && (starts (ascii ":") xs || starts (ascii ".") xs || starts (ascii "=") xs)) && r

-- a text goes on as a range does after its first byte: `-` and a byte
abbrev pub goes_on : Text → Bool
goes_on [] = false
goes_on (x ∷ xs) = eqb x 45 && not (is_empty xs)

-- what the bytes of a set list, "read left to right"; "a backslash is itself"
pub data Lists : Text → List Range → Type 0 where
  -- the set's end
  no_byte : Lists [] []
  -- "a byte, `-` and a byte other than `]` make a range, its ends perhaps equal" (`]` stands first, or ends the set); "ascending"
  a_range : {a b : ℕ} {x : Text} {rs : List Range} → T (leb a b) → Lists x rs → Lists (a ∷ (ascii "-" ++ (b ∷ x))) (range a b ∷ rs)
  -- any other byte
  a_byte : {a : ℕ} {x : Text} {rs : List Range} → T (not (goes_on x)) → Lists x rs → Lists (a ∷ x) (range a a ∷ rs)

-- what stands in a set's brackets: "A set lists at least one byte or ascending range, and `]` is a member only when first"
abbrev pub is_close : ℕ → Bool
is_close x = eqb x 93

pub record Inside (x : Text) (rs : List Range) : Type 0 where
  pub some_byte : T (not (is_empty x))
  pub only_first : T (not (some_of is_close (drop 1 x)))
  pub no_classes : T (no_class x)
  pub members : Lists x rs

-- the sorts of phrases; an atom is what may be repeated
pub data Sort : Type 0 where
  branches branch piece atom : Sort

-- a text spells a pattern, as a phrase of a sort
pub data Spells : Sort → Text → Pattern → Type 0 where
  -- "A pattern is one or more branches parted by `|`, each one or more pieces"
  last_branch : {x : Text} {p : Pattern} → Spells branch x p → Spells branches x p
  more_branches : {x y : Text} {p q : Pattern} → Spells branch x p → Spells branches y q → Spells branches (x ++ (ascii "|" ++ y)) (choice p q)
  last_piece : {x : Text} {p : Pattern} → Spells piece x p → Spells branch x p
  more_pieces : {x y : Text} {p q : Pattern} → Spells piece x p → Spells branch y q → Spells branch (x ++ y) (sequence p q)
  -- "A piece is `^`, `$`, or a character, `.`, set or group with at most one repeat sign"
  a_caret : Spells piece (ascii "^") start
  a_dollar : Spells piece (ascii "$") end
  unrepeated : {x : Text} {p : Pattern} → Spells atom x p → Spells piece x p
  repeated : {x y : Text} {p : Pattern} {r : Repeat} → Spells atom x p → RepeatSign y r → Spells piece (x ++ y) (repeated_by r p)
  -- "Outside sets every byte but `^$.[(){|+*?\` is a character, and a backslash makes the next byte ordinary"
  a_character : {x : ℕ} → T (is_character x) → Spells atom (x ∷ []) (just x)
  after_backslash : {x : ℕ} → Spells atom (ascii "\\" ++ (x ∷ [])) (just x)
  -- `.`: any byte
  a_dot : Spells atom (ascii ".") (one true [])
  -- "bracket sets and their complements with byte ranges"
  a_set : {x : Text} {rs : List Range} → T (not (starts (ascii "^") x)) → Inside x rs → Spells atom (ascii "[" ++ (x ++ ascii "]")) (one false rs)
  a_complement : {x : Text} {rs : List Range} → Inside x rs → Spells atom (ascii "[^" ++ (x ++ ascii "]")) (one true rs)
  -- "groups"
  a_group : {x : Text} {p : Pattern} → Spells branches x p → Spells atom (ascii "(" ++ (x ++ ascii ")")) p

-- The reader. The law pattern-read says that it gives the one pattern that a text spells, and none where there is none.

-- a phrase at a text's beginning: its pattern and the text after it
pub data Reading : Type 0 where
  read : Pattern → Text → Reading
  wrong : Reading

-- on after a phrase
abbrev pub on_read : Reading → (Pattern → Text → Reading) → Reading
on_read wrong f = wrong
on_read (read p xs) f = f p xs

-- the ranges that a text lists
abbrev pub add : Range → Option (List Range) → Option (List Range)
add r none = none
add r (some rs) = some (r ∷ rs)

unfoldable pub listed : Text → Option (List Range)
listed [] = some []
listed (a ∷ []) = some (range a a ∷ [])
listed (a ∷ d ∷ []) = add (range a a) (listed (d ∷ []))
listed (a ∷ d ∷ b ∷ xs) =
    let r = listed xs in
    let s = listed (d ∷ b ∷ xs) in
    if eqb d 45 then (if leb a b then (add (range a b) r) else none)
    else (add (range a a) s)

-- the bytes before the first `]`, and those after it
pub data Cut : Type 0 where
  cut : Text → Text → Cut
  uncut : Cut

abbrev pub onto : ℕ → Cut → Cut
onto x (cut xs ys) = cut (x ∷ xs) ys
onto x uncut = uncut

unfoldable pub to_close : Text → Cut
to_close [] = uncut
to_close (x ∷ xs) = let r = to_close xs in if is_close x then (cut [] xs) else (onto x r)

-- a set, where its bytes and the text after it are known; c says that it is a complement
abbrev pub set_of : Bool → Option (List Range) → Text → Reading
set_of c none ys = wrong
set_of c (some rs) ys = read (one c rs) ys

abbrev pub set_read : Bool → Cut → Reading
set_read c uncut = wrong
set_read c (cut xs ys) = if no_class xs then (set_of c (listed xs) ys) else wrong

-- after `[` or `[^`
unfoldable pub read_set : Bool → Text → Reading
read_set c [] = wrong
read_set c (x ∷ xs) = set_read c (onto x (to_close xs))

-- after `{`: a digit, `,`, a digit, `}`
unfoldable pub read_count : Pattern → Text → Reading
read_count p [] = wrong
read_count p (a ∷ []) = wrong
read_count p (a ∷ c ∷ []) = wrong
read_count p (a ∷ c ∷ b ∷ []) = wrong
read_count p (a ∷ c ∷ b ∷ d ∷ xs) =
    if leb 48 a && leb a b && leb b 56 && eqb c 44 && eqb d 125 then (read (repeated_by (from_to (a - 48) (b - 48)) p) xs) else wrong

-- after an atom: `*`, `+`, `?`, `{`, or no repeat sign
unfoldable pub read_repeat : Pattern → Text → Reading
read_repeat p [] = read p []
read_repeat p (x ∷ xs) =
    if eqb x 42 then (read (repeated_by any_number p) xs)
    else if eqb x 43 then (read (repeated_by one_or_more p) xs)
    else if eqb x 63 then (read (repeated_by at_most_one p) xs)
    else if eqb x 123 then (read_count p xs)
    else (read p (x ∷ xs))

-- after a backslash
abbrev pub read_ordinary : Text → Reading
read_ordinary [] = wrong
read_ordinary (x ∷ xs) = read (just x) xs

-- after a group's branches
abbrev pub read_close : Pattern → Text → Reading
read_close p xs = if starts (ascii ")") xs then (read p (drop 1 xs)) else wrong

-- what may follow a branch
unfoldable pub ends_branch : Text → Bool
ends_branch xs = is_empty xs || starts (ascii "|") xs || starts (ascii ")") xs

-- a phrase of each sort, where r reads the phrases in it; an atom is a character, or begins with `\`, `.`, `[` or `(`
unfoldable pub rule : Sort → (Sort → Text → Reading) → Text → Reading
rule branches r xs =
    on_read (r branch xs) λ p ys.
    let more = on_read (r branches (drop 1 ys)) (λ q zs. read (choice p q) zs) in
    if starts (ascii "|") ys then more else (read p ys)
rule branch r xs =
    on_read (r piece xs) λ p ys.
    let more = on_read (r branch ys) (λ q zs. read (sequence p q) zs) in
    if ends_branch ys then (read p ys) else more
rule piece r xs =
    let more = on_read (r atom xs) read_repeat in
    if starts (ascii "^") xs then (read start (drop 1 xs))
    else if starts (ascii "$") xs then (read end (drop 1 xs))
    else more
rule atom r [] = wrong
rule atom r (x ∷ xs) =
    let group = on_read (r branches xs) read_close in
    if is_character x then (read (just x) xs)
    else if eqb x 92 then (read_ordinary xs)
    else if eqb x 46 then (read (one true []) xs)
    else if eqb x 91 then (if starts (ascii "^") xs then (read_set true (drop 1 xs)) else (read_set false xs))
    else if eqb x 40 then group
    else wrong

-- by descent, at most n deep
unfoldable pub phrase : ℕ → Sort → Text → Reading
phrase zero s xs = wrong
phrase (suc n) s xs = rule s (phrase n) xs

-- a phrase that is the whole text
abbrev pub to_end : Reading → Option Pattern
to_end wrong = none
to_end (read p []) = some p
to_end (read p (x ∷ xs)) = none

-- each byte is at most four phrases deep
unfoldable pub read_pattern : Text → Option Pattern
read_pattern xs = to_end (phrase (4 * suc (length xs)) branches xs)

abbrev pub is_some : {A : Type 0} → Option A → Bool
is_some none = false
is_some (some x) = true

-- a text is a pattern; "Every other pattern is malformed"
unfoldable pub well_formed : Text → Bool
well_formed xs = is_some (read_pattern xs)

-- The test. The law found-is says that it finds exactly what matches.

-- the table of pairs of positions in an element, 0 to its length, that pass a test
unfoldable pub pairs : Text → (ℕ → ℕ → Bool) → List ℕ
pairs e f = table (suc (length e)) 2 (λ t. f (get_or t 0 0) (get_or t 1 0))

-- a pair of positions is in a table
abbrev pub joined : Text → List ℕ → ℕ → ℕ → Bool
joined e ws i j = holds (suc (length e)) ws (i ∷ j ∷ [])

-- the pairs that two tables join, one after the other; one or the other; and a position with itself
unfoldable pub joined_by_both : Text → List ℕ → List ℕ → List ℕ
joined_by_both e ws vs = pairs e (λ i j. some_of (λ k. joined e ws i k && joined e vs k j) (below (suc (length e))))

unfoldable pub joined_by_either : Text → List ℕ → List ℕ → List ℕ
joined_by_either e ws vs = pairs e (λ i j. joined e ws i j || joined e vs i j)

unfoldable pub joined_or_equal : Text → List ℕ → List ℕ
joined_or_equal e ws = pairs e (λ i j. eqb i j || joined e ws i j)

-- the pairs i, j such that the bytes i to j - 1 of an element are described where they stand
unfoldable pub spans : Text → Pattern → List ℕ
spans e empty = pairs e eqb
spans e start = pairs e (λ i j. eqb i 0 && eqb j 0)
spans e end = pairs e (λ i j. eqb i (length e) && eqb j (length e))
spans e (one c rs) = pairs e (λ i j. eqb (suc i) j && in_set c rs (get_or e i 0))
spans e (sequence p q) = joined_by_both e (spans e p) (spans e q)
spans e (choice p q) = joined_by_either e (spans e p) (spans e q)
spans e (star p) = joined_or_equal e (closure (suc (length e)) (spans e p))

-- a table holds a pair
unfoldable pub some_pair : Text → List ℕ → Bool
some_pair e ws = some_of (λ i. some_of (joined e ws i) (below (suc (length e)))) (below (suc (length e)))

-- an element matches a pattern
unfoldable pub found : Pattern → Text → Bool
found p e = some_pair e (spans e p)

abbrev pub found_in : Option Pattern → Text → Bool
found_in none e = false
found_in (some p) e = found p e

-- an element matches the pattern that a text spells
unfoldable pub matches : Text → Text → Bool
matches s e = found_in (read_pattern s) e

-- opens every definition of this module, for a proof by computation
unfoldable pub computes : Unit {0}
unfolding in_ranges in_set up_to times repeated_by is_character no_class listed to_close read_set read_count read_repeat ends_branch rule phrase read_pattern well_formed pairs joined_by_both joined_by_either joined_or_equal spans some_pair found matches
computes = tt

-- Tuples by number, and the place of a tuple in its table, for every arity.
use Rattle.std.specs.Prelude.{ℕ, zero, suc, ◌+◌, ◌*◌, ◌/◌, ◌%◌, List, [], ◌∷◌, ◌++◌, get_or, set}
use Rattle.definition.specs.Tables.{Tuple}
use Rattle.bits.specs.Bits.{with_bit}

-- the tuple of n elements with number i: i in n digits of base u, so tuples ascend with their numbers
unfoldable pub digits : ℕ → ℕ → ℕ → Tuple
digits u zero i = []
digits u (suc n) i = digits u n (i / u) ++ (i % u ∷ [])

-- the number of a tuple, counted on from w: `digits` undone
abbrev pub number_at : ℕ → ℕ → Tuple → ℕ
number_at u w [] = w
number_at u w (a ∷ t) = number_at u (u * w + a) t

-- the bits in use of each word of a table of arity n; tuple i stands at bit i % width of word i / width
abbrev pub width : ℕ → ℕ → ℕ
width u zero = 1
width u (suc n) = u

-- "(a,b,c) is bit c of word U × a + b": a tuple's word, counted on from w, and its bit; "the empty tuple is bit 0"
abbrev pub word_at : ℕ → ℕ → Tuple → ℕ
word_at u w [] = w
word_at u w (a ∷ []) = w
word_at u w (a ∷ b ∷ t) = word_at u (u * w + a) (b ∷ t)

abbrev pub bit_at : Tuple → ℕ
bit_at [] = 0
bit_at (a ∷ []) = a
bit_at (a ∷ b ∷ t) = bit_at (b ∷ t)

-- a table's words with a tuple added
unfoldable pub with_tuple : ℕ → List ℕ → Tuple → List ℕ
with_tuple u ws t = set ws (word_at u 0 t) (with_bit (get_or ws (word_at u 0 t) 0) (bit_at t))

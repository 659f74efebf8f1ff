-- A byte of a set, and the sets of ends of the smallest patterns.
use Rattle.std.specs.Prelude.{ℕ, ◌*◌, Bool, false, ◌||◌, not, cond, [], ◌∷◌, eqb, length, get_or}
use Rattle.std.specs.Int.Bits.{bit_and}
use Rattle.definition.specs.Text.{Text, between}
use Rattle.definition.specs.Tables.{bit, word}
use Rattle.bits.specs.Bits.{with_bit}

-- a byte is in the ranges that a text lists
unfoldable pub is_held : Text → ℕ → Bool
is_held [] b = false
is_held (a ∷ []) b = eqb a b
is_held (a ∷ d ∷ []) b = eqb a b || eqb d b
is_held (a ∷ d ∷ c ∷ xs) b =
    let r = is_held xs b in
    let q = is_held (d ∷ c ∷ xs) b in
    cond (eqb d 45) (between a c b || r) (eqb a b || q)

-- a byte is in the set that a text lists, or (true) in its complement
unfoldable pub fits : Text → Bool → ℕ → Bool
fits t c b = cond c (not (is_held t b)) (is_held t b)

-- the places of such bytes in an element
unfoldable pub fitting : Text → Text → Bool → ℕ
fitting e t c = word (length e) 0 (λ i. fits t c (get_or e i 0))

-- the positions that such a byte leads to from those of s
unfoldable pub moved : Text → ℕ → Text → Bool → ℕ
moved e s t c = bit_and s (fitting e t c) * 2

-- position k, where a set has it
unfoldable pub spot : ℕ → ℕ → ℕ
spot s k = cond (bit s k) (with_bit 0 k) 0

-- A word of 64 bits with one bit more.
use Rattle.std.specs.Prelude.{ℕ, ◌||◌, eqb}
use Rattle.definition.specs.Tables.{bit, word}

-- the word of 64 bits whose bits are those of w and bit b
unfoldable pub with_bit : ℕ → ℕ → ℕ
with_bit w b = word 64 0 (λ i. bit w i || eqb b i)

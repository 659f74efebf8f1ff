-- The elements near an element by the pairs of a binary table, level by level, and the way down the levels.
use Rattle.std.specs.Prelude.{◌≡◌, Bool, not, cond, List, [], ◌∷◌, ℕ, zero, suc, ◌<◌, eqb, length, get_or}
use Rattle.std.specs.Int.Bits.{bit_and, bit_or}
use Rattle.definition.specs.Tables.{bit, word}
use Rattle.bits.specs.Bits.{with_bit}

-- the first of the n numbers from a on that passes a test, or a + n
unfoldable pub least : ℕ → ℕ → (ℕ → Bool) → ℕ
least zero a f = a
least (suc n) a f = cond (f a) a (least n (suc a) f)

-- two words have a bit in common
unfoldable pub meets : ℕ → ℕ → Bool
meets v w = not (eqb (bit_and v w) 0)

-- the elements that have a pair into a set
unfoldable pub before : List ℕ → ℕ → ℕ
before rows set = word (length rows) 0 (λ x. meets (get_or rows x 0) set)

-- the elements from which at most k pairs lead to b
unfoldable pub level : List ℕ → ℕ → ℕ → ℕ
level rows b zero = with_bit 0 b
level rows b (suc k) = bit_or (level rows b k) (before rows (level rows b k))

-- the first 64 levels of b
pub record Near (rows : List ℕ) (b : ℕ) (near : List ℕ) : Type 0 where
  pub at : (k : ℕ) → k < 64 → get_or near k 0 ≡ level rows b k

-- the least element of a set that x has a pair with
unfoldable pub next : List ℕ → ℕ → ℕ → ℕ
next rows set x = least 64 0 (bit (bit_and (get_or rows x 0) set))

-- the way from x down the n levels below, without x
unfoldable pub way : List ℕ → (ℕ → ℕ) → ℕ → ℕ → List ℕ
way rows near zero x = []
way rows near (suc n) x = next rows (near n) x ∷ way rows near n (next rows (near n) x)

-- The elements of a universe that match a pattern, as the bits of words.
use Rattle.std.specs.Prelude.{ℕ, ◌+◌, Bool, ◌&&◌, List, [], ltb, length, get_or}
use Rattle.definition.specs.Text.{Text}
use Rattle.definition.specs.Tables.{word}
use Rattle.definition.specs.Pattern.{matches}

-- element a + k is there, and matches the pattern that a text spells
unfoldable pub is_match : Text → List Text → ℕ → ℕ → Bool
is_match s universe a k = ltb (a + k) (length universe) && matches s (get_or universe (a + k) [])

-- bit k, of 32, is that of element a + k
unfoldable pub half_of : Text → List Text → ℕ → ℕ
half_of s universe a = word 32 0 (is_match s universe a)

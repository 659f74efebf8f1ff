-- Words that stand in an array.
use Rattle.std.specs.Prelude.{ℕ, ◌+◌, ◌≡◌, List, [], ◌∷◌, get_or}

-- the words ws stand in words from n on
unfoldable pub Has : List ℕ → ℕ → List ℕ → Type 0
Has words n [] = Unit {0}
Has words n (w ∷ ws) = (get_or words n 0 ≡ w) × Has words (n + 1) ws

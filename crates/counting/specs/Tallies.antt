-- The relation of a fact's number; the numbers of each relation are counted.
use Rattle.std.specs.Prelude.{ℕ, ◌+◌, ◌/◌, ◌%◌, List, [], ◌∷◌, get_or, set}

-- the relation of a number
abbrev pub relation_of : ℕ → ℕ
relation_of x = x / 16777216 % 16

-- one more for the relation of each number
unfoldable pub tallied : List ℕ → List ℕ → List ℕ
tallied [] cs = cs
tallied (x ∷ xs) cs = tallied xs (set cs (relation_of x) (get_or cs (relation_of x) 0 + 1))

-- What the search among the reserved words answers: the index of the word, or nothing.
use Rattle.std.specs.Prelude.{ℕ, ◌+◌, Bool, true, false, Option, Some, None}
use Rattle.definition.specs.Token.{Terminal, name, key, FIRST_WORD}

-- whether the word is reserved
abbrev pub is_reserved : Option ℕ → Bool
is_reserved (Some k) = true
is_reserved None = false

-- what the grammar sees of the word as token i
abbrev pub terminal_of : Option ℕ → ℕ → Terminal
terminal_of (Some k) i = key (FIRST_WORD + k)
terminal_of None i = name i

-- its index among the reserved words
abbrev pub index_of : Option ℕ → ℕ
index_of (Some k) = k
index_of None = 0

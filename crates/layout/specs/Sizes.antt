-- How many words the tables of some relations take, by the words of the relations: a relation's tag is its arity.
use Rattle.std.specs.Prelude.{ℕ, ◌+◌, ◌*◌, max, ◌<◌, ◌≡◌, List, [], ◌∷◌, length, get_or, take}
use Rattle.definition.specs.Limits.{CLOSURES}
use Rattle.definition.specs.Tables.{table_words}
use Rattle.definition.specs.Accept.{Accepted, words_needed}
use Rattle.parts.specs.Packed.{tag_of}
use Rattle.code.specs.Layout.{Laid}

unfoldable pub all_words : ℕ → List ℕ → ℕ
all_words u [] = 0
all_words u (r ∷ rs) = table_words u (tag_of r) + all_words u rs

unfoldable pub most_words : ℕ → List ℕ → ℕ
most_words u [] = 0
most_words u (r ∷ rs) = max (table_words u (tag_of r)) (most_words u rs)

-- the first words of the relations' tables, one after another
abbrev pub TablesAt : ℕ → List ℕ → List ℕ → Type 0
TablesAt u rs firsts = (i : ℕ) → i < length rs → get_or firsts i 0 ≡ all_words u (take i rs)

-- those of the closures' tables, from the word f on
abbrev pub ClosuresAt : ℕ → ℕ → List ℕ → Type 0
ClosuresAt u f firsts = (c : ℕ) → c < CLOSURES → get_or firsts (16 + c) 0 ≡ f + c * u

-- the whole layout, and the words that it takes
pub record LaidOut (w : Accepted) (firsts : List ℕ) (scratch words : ℕ) : Type 0 where
  pub laid : Laid w firsts scratch
  pub needed : words ≡ words_needed w

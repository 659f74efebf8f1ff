-- The two texts of the checks, and a part entered into words of which the first two are a set.
use Rattle.std.specs.Prelude.{ℕ, List, [], ◌∷◌, take}
use Rattle.definition.specs.Text.{Text, ascii}
use Rattle.definition.specs.Facts.{Ascending}
use Rattle.parts.specs.Entries.{enter, in_front, count_in, texts_of}
use Rattle.parts_test.specs.Counts.{count_of}

abbrev pub facts : Text
facts = ascii "R C10 \"C2\""

abbrev pub query : Text
query = ascii "C2 C1"

-- C10 and the query's C2, and two words that are no parts
abbrev pub four : List ℕ
four = 1048 ∷ 20 ∷ 9 ∷ 9 ∷ []

abbrev pub IsSet : List ℕ → Type 0
IsSet words = Ascending (texts_of facts query (take 2 words))

abbrev pub count_after : ℕ → List ℕ → ℕ
count_after v words = count_of (count_in (enter facts query v (take 2 words)) words)

abbrev pub words_after : ℕ → List ℕ → List ℕ
words_after v words = in_front (enter facts query v (take 2 words)) words

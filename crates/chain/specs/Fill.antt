-- The rows of a name's pairs, filled fact by fact.
use Rattle.std.specs.Prelude.{ℕ, ◌&&◌, List, [], ◌∷◌, map, ltb, eqb, length, get_or, set, if◌then◌else◌}
use Rattle.definition.specs.Text.{Text, same}
use Rattle.definition.specs.Facts.{Fact, Element}
use Rattle.bits.specs.Bits.{with_bit}
use Rattle.parts.specs.Entries.{position}

-- the value in a column of a fact
abbrev pub value_at : List Element → ℕ → Text
value_at es i = get_or (map (λ e. e.value) es) i []

-- the rows with the pair of a and b; a number past the rows is no element's
unfoldable pub with_pair : List ℕ → ℕ → ℕ → List ℕ
with_pair rows a b = if ltb a (length rows) && ltb b (length rows) then (set rows a (with_bit (get_or rows a 0) b)) else rows

-- the rows with a fact: it adds a pair if it is a binary one of the name
unfoldable pub with_fact : Text → List ℕ → Text → List ℕ → Fact → List ℕ
with_fact facts ws r rows g =
    if same r g.name && eqb (length g.elements) 2 then (with_pair rows (position facts facts (value_at g.elements 0) ws) (position facts facts (value_at g.elements 1) ws)) else rows

unfoldable pub fill : Text → List ℕ → Text → List ℕ → List Fact → List ℕ
fill facts ws r rows [] = rows
fill facts ws r rows (g ∷ gs) = fill facts ws r (with_fact facts ws r rows g) gs

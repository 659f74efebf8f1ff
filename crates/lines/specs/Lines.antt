-- The line of a tuple.
use Rattle.std.specs.Prelude.{ℕ, ◌+◌, ◌/◌, ◌%◌, List, [], ◌∷◌, ◌++◌, map, eqb, get_or, if◌then◌else◌}
use Rattle.definition.specs.Text.{Text}
use Rattle.definition.specs.Tables.{Tuple}
use Rattle.definition.specs.Print.{spaced}
use Rattle.parts.specs.Packed.{tag_of, text_of}

-- the two texts, and for each element the part of one of them that it is, with tag 1 if it is printed in quotes
pub record Texts : Type 0 where
  pub facts : Text
  pub query : Text
  pub places : List ℕ

abbrev pub texts : Text → Text → List ℕ → Texts
texts f q p = record { facts = f; query = q; places = p }

abbrev pub element_at : Texts → ℕ → Text
element_at T a = text_of T.facts T.query (get_or T.places a 0)

-- an element as it is printed, in quotes where its tag says so
unfoldable pub shown_at : Texts → ℕ → Text
shown_at T a = if eqb (tag_of (get_or T.places a 0)) 1 then (34 ∷ element_at T a ++ (34 ∷ [])) else (element_at T a)

-- the most bytes that the element with the place w takes: fewer where the facts or the query end before its part does
abbrev pub shown_most : ℕ → ℕ
shown_most w = if eqb (tag_of w) 1 then (w / 8 % 64 + 2) else (w / 8 % 64)

-- an element after a space
abbrev pub after : Texts → ℕ → Text
after T a = 32 ∷ shown_at T a

-- the line of a tuple, under the label, if any
unfoldable pub line_of : Texts → List Text → Tuple → Text
line_of T ls t = spaced (ls ++ map (shown_at T) t) ++ (10 ∷ [])

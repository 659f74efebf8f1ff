-- A fact as one number: its relation's place × 2 ^ 24, and the number of its tuple.
use Rattle.std.specs.Prelude.{ℕ, ◌+◌, ◌*◌, List, [], map, get_or}
use Rattle.definition.specs.Facts.{Fact}
use Rattle.definition.specs.Tables.{Tuple}
use Rattle.definition.specs.Accept.{Accepted, elements}
use Rattle.definition.specs.Meaning.{numbers}
use Rattle.definition.proofs.RelationLaws.{place_of}
use Rattle.tuples.specs.Places.{number_at}
use Rattle.numbers.specs.Sets.{entered_all}

module _ (w : Accepted) where
  -- a fact's elements by their numbers in the universe
  unfoldable pub fact_numbers : Fact → Tuple
  fact_numbers g = map (λ e. get_or (numbers e.value w.universe 0) 0 0) g.elements

  unfoldable pub fact_number : Fact → ℕ
  fact_number g = place_of g.name w.relations * 16777216 + number_at (elements w) 0 (fact_numbers g)

  -- the set of some facts' numbers
  abbrev pub number_set : List Fact → List ℕ
  number_set gs = entered_all (map fact_number gs) []

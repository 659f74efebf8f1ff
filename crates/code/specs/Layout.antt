-- Where the tables stand in the store: the relations, one after another; then 16 tables of pairs for closures; then the words in which an
-- assignment makes its new table.
use Rattle.std.specs.Prelude.{ℕ, ◌+◌, ◌*◌, ◌<◌, ◌≡◌, List, length, get_or, take}
use Rattle.definition.specs.Limits.{CLOSURES}
use Rattle.definition.specs.Accept.{Accepted, elements, relation_words}

-- the first words of relations and closures, and of the new table
pub record Laid (w : Accepted) (firsts : List ℕ) (scratch : ℕ) : Type 0 where
  pub relations : (i : ℕ) → i < length w.relations → get_or firsts i 0 ≡ relation_words (elements w) (take i w.relations)
  pub closures : (c : ℕ) → c < CLOSURES → get_or firsts (16 + c) 0 ≡ relation_words (elements w) w.relations + c * elements w
  pub new_table : scratch ≡ relation_words (elements w) w.relations + CLOSURES * elements w

-- The record of a relation, as the check answers it.
use Rattle.std.specs.Prelude.{ℕ, length}
use Rattle.definition.specs.Facts.{Relation}
use Rattle.definition.specs.declared.Record.{Record}

abbrev pub record_of : Relation → ℕ → ℕ → Record
record_of r f n = record { text = r.text; offset = r.at; length = length r.name; arity = r.arity; first = f; count = n }

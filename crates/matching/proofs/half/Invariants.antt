use mathlib.Core.Path.{◌≡◌}
use Rattle.definition.specs.Tables.{word}
use Rattle.parts.specs.Entries.{texts_of}
use Rattle.matching.specs.Halves.{is_match}
use Rattle.matching.proofs.half.Given as goal

abbrev pub invariant-loop-k : goal.invariant-loop-k
invariant-loop-k l = l.r ≡ word l.k 0 (is_match l.pattern (texts_of l.facts l.query l.places) l.first)

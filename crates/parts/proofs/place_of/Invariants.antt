use mathlib.Core.Path.{◌≡◌}
use Rattle.parts.specs.Packed.{text_of}
use Rattle.parts.proofs.EntryLaws.{Passed}
use Rattle.parts.proofs.place_of.Given as goal

abbrev pub invariant-loop-p : goal.invariant-loop-p
invariant-loop-p l = (l.text ≡ text_of l.facts l.query l.v) × Passed l.facts l.query l.v l.parts l.p

use Prim.Native.Nat.{◌+◌}
use mathlib.Core.Path.{◌≡◌}
use lib.ListN.{drop}
use Rattle.definition.specs.Text.{span}
use Rattle.parts.specs.Entries.{position}
use Rattle.parts.proofs.PositionLaws.{differs}
use Rattle.parts.proofs.position_of.Given as goal

abbrev pub invariant-loop-k : goal.invariant-loop-k
invariant-loop-k l = position l.facts l.query l.t l.parts ≡ l.k + span (differs l.facts l.query l.t) (drop l.k l.parts)

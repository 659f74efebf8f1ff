use Prim.Native.Nat.{◌≤◌, ◌-◌}
use mathlib.Core.Path.{◌≡◌}
use lib.ListN.{length, drop}
use Rattle.definition.specs.Facts.{cut, lines}
use Rattle.facts.proofs.ReadingLaws.{Reading}
use Rattle.facts.proofs.read_lines.Given as goal

abbrev pub invariant-loop-d : goal.invariant-loop-d
invariant-loop-d l = (l.a ≤ length l.facts) × (length l.relations ≡ length l.initial.relations) × (length l.universe ≡ length l.initial.universe) × Reading l.facts l.query l.initial.relations l.initial.universe l.initial.k (lines l.a (cut (drop l.a l.facts))) l.relations l.universe l.k

abbrev pub decreases-loop-d : goal.decreases-loop-d
decreases-loop-d l = length l.facts - l.a

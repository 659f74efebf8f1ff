use Prim.Native.Nat.{◌≤◌, ◌-◌}
use mathlib.Core.Path.{◌≡◌}
use lib.ListN.{length}
use Rattle.facts.specs.Reading.{facts_from}
use Rattle.facts.proofs.next_fact.Given as goal

abbrev pub invariant-loop-a : goal.invariant-loop-a
invariant-loop-a l = (l.at ≤ l.a) × (facts_from l.facts l.at ≡ facts_from l.facts l.a)

abbrev pub decreases-loop-a : goal.decreases-loop-a
decreases-loop-a l = length l.facts - l.a

use Prim.Native.Nat.{◌+◌, ◌-◌}
use mathlib.Core.Path.{◌≡◌}
use lib.ListN.{length}
use Rattle.facts.specs.Reading.{facts_from, all_facts}
use Rattle.chain.specs.Fill.{fill}
use Rattle.chain.proofs.fill_rows.Given as goal

abbrev pub invariant-loop-a : goal.invariant-loop-a
invariant-loop-a l = fill l.facts l.universe l.name l.rows (facts_from l.facts l.at) ≡ fill l.facts l.universe l.name l.initial.rows (all_facts l.facts)

abbrev pub decreases-loop-a : goal.decreases-loop-a
decreases-loop-a l = length l.facts + 1 - l.at

use Prim.Native.Nat.{◌-◌, ◌≤◌}
use lib.ListN.{length}
use Rattle.closure.specs.Rows.{Rows}
use Rattle.closure.specs.Worked.{Worked}
use Rattle.closure.proofs.work_nodes.Given as goal

abbrev pub invariant-loop-node : goal.invariant-loop-node
invariant-loop-node l = Worked l.initial.rows l.node l.rows × Rows (length l.rows) l.rows × (l.node ≤ l.m)

abbrev pub decreases-loop-node : goal.decreases-loop-node
decreases-loop-node l = l.m - l.node

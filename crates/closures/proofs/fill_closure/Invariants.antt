use Prim.Native.Nat.{◌-◌, ◌%◌, ◌≤◌}
use lib.ListN.{take}
use Rattle.eval.specs.Nodes.{node_at}
use Rattle.eval.specs.Meaning.{world, pairs}
use Rattle.closures.proofs.Parts.{Pasted}
use Rattle.closures.proofs.fill_closure.Given as goal

abbrev pub invariant-loop-a : goal.invariant-loop-a
invariant-loop-a l = (l.a ≤ l.u) × Pasted l.initial.store l.o (pairs (world (take l.o l.initial.store) l.firsts l.vars l.u) (node_at l.nodes l.n) (l.x % 8) (l.y % 8)) l.a l.store

abbrev pub decreases-loop-a : goal.decreases-loop-a
decreases-loop-a l = l.u - l.a

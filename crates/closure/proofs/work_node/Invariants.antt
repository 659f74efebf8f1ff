use Prim.Native.Nat.{◌-◌, ◌≤◌}
use mathlib.Core.Path.{◌≡◌}
use lib.ListN.{length}
use Rattle.closure.specs.Rows.{join_word}
use Rattle.closure.proofs.Front.{front}
use Rattle.closure.proofs.work_node.Given as goal

abbrev pub invariant-loop-x : goal.invariant-loop-x
invariant-loop-x l = (l.rows ≡ front (join_word l.row l.k) l.x l.initial.rows) × (length l.rows ≡ l.n) × (l.x ≤ l.n)

abbrev pub decreases-loop-x : goal.decreases-loop-x
decreases-loop-x l = l.n - l.x

use Prim.Native.Nat.{◌≤◌, ◌-◌}
use lib.ListN.{length}
use Rattle.breaks.proofs.BytesLaws.{ReadTo}
use Rattle.breaks.proofs.read_end.Given as goal

abbrev pub invariant-loop-a : goal.invariant-loop-a
invariant-loop-a l = (l.a ≤ length l.facts) × ReadTo l.facts l.a

abbrev pub decreases-loop-a : goal.decreases-loop-a
decreases-loop-a l = length l.facts - l.a

use Prim.Native.Nat.{◌≤◌, ◌-◌}
use lib.ListN.{length}
use Rattle.breaks.proofs.EndLaws.{LegalTo}
use Rattle.breaks.proofs.legal_end.Given as goal

abbrev pub invariant-loop-i : goal.invariant-loop-i
invariant-loop-i l = (l.i ≤ length l.facts) × LegalTo l.facts l.i

abbrev pub decreases-loop-i : goal.decreases-loop-i
decreases-loop-i l = length l.facts - l.i

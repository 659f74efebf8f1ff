use Prim.Native.Nat.{◌≤◌}
use Rattle.lines.proofs.Lengths.{Most}
use Rattle.lines.proofs.longest.Given as goal

abbrev pub invariant-loop-w : goal.invariant-loop-w
invariant-loop-w l = (l.m ≤ 65) × Most l.places l.w-index l.m

use Prim.Native.Nat.{◌<◌}
use Rattle.hints.proofs.mark.Given as goal

abbrev pub invariant-loop-x : goal.invariant-loop-x
invariant-loop-x l = l.h < 256

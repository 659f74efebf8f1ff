use Prim.Native.Nat.{◌+◌, ◌-◌}
use mathlib.Core.Path.{◌≡◌}
use Rattle.lowering.specs.Lowering.{at, all_stand}
use Rattle.lowering.proofs.all_stand.Given as goal

abbrev pub invariant-loop-i : goal.invariant-loop-i
invariant-loop-i l = all_stand (at l.words) (at l.codes) l.u l.n l.k ≡ all_stand (at l.words) (at l.codes) l.u (l.n - l.i) (l.k + l.i)

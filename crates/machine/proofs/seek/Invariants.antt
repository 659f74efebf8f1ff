use Prim.Native.Nat.{◌-◌}
use mathlib.Core.Path.{◌≡◌}
use Rattle.machine.specs.Actions.{members}
use Rattle.machine.proofs.seek.Given as goal

abbrev pub invariant-loop-a : goal.invariant-loop-a
invariant-loop-a l = members l.s l.from (l.u - l.from) ≡ members l.s l.a (l.u - l.a)

use Prim.Native.Nat.{◌+◌}
use mathlib.Core.Path.{ap}
use native.Mathlib.Omega.{arith}
use lib.ListN.{set}
use Rattle.machine.specs.Turns.{next_at, left_at}
use Rattle.machine.proofs.take.Goals as goal

pub overflow_add-cursors : goal.overflow_add-cursors
overflow_add-cursors c = omega arith

pub returns : goal.returns
unfolding next_at left_at
returns c = let a = c.args in record { cursors_after = ap (λ x. set a.cursors.now a.d (x + 1)) c.seek-a.ensures.0; vars_after = ap (set a.vars.now a.d) c.seek-a.ensures.0 }

use Rattle.slots.specs.Slots.{place_from}
use lib.ListN.{length, take, drop}
use mathlib.Core.Path.{◌≡◌}
use Prim.Native.Nat.{◌≤◌}
use Rattle.slots.proofs.place.Given as goal

abbrev pub invariant-loop-i : goal.invariant-loop-i
invariant-loop-i l = (l.n ≤ length l.names) × (place_from l.x (take l.n l.names) 0 ≡ place_from l.x (drop l.i (take l.n l.names)) l.i)

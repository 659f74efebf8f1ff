use Prim.Native.Nat.{◌^◌, ◌<◌}
use mathlib.Core.Path.{◌≡◌}
use lib.ListN.{drop}
use Rattle.tuples.specs.Places.{number_at}
use Rattle.tuples.proofs.tuple_number.Given as goal

abbrev pub invariant-loop-a : goal.invariant-loop-a
invariant-loop-a l = (l.i < 256 ^ l.a-index) × (number_at l.u l.i (drop l.a-index l.a-items) ≡ number_at l.u 0 l.a-items)

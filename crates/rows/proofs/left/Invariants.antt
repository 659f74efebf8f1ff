use Rattle.rows.specs.Tests.{left_from}
use Rattle.free.specs.Words.{at}
use Rattle.slots.specs.Slots.{digit_at}
use mathlib.Core.Path.{◌≡◌}
use Prim.Native.Nat.{◌+◌, ◌<◌, ◌-◌}
use Rattle.rows.proofs.left.Given as goal

abbrev pub invariant-loop-j : goal.invariant-loop-j
invariant-loop-j l = (l.a < 4096) × (left_from (at l.words) (digit_at l.f l.ids) l.i l.n 0 ≡ left_from (at l.words) (digit_at l.f l.ids) (l.i + l.j) (l.n - l.j) l.a)

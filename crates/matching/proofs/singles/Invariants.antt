use mathlib.Core.Path.{◌≡◌}
use Prim.Native.Nat.{ℕ}
use Rattle.bits.specs.Bits.{with_bit}
use Rattle.matching.proofs.RowLaws.{Upto}
use Rattle.matching.proofs.singles.Given as goal

abbrev pub invariant-loop-i : goal.invariant-loop-i
invariant-loop-i l = Upto (λ (m a r : ℕ). r ≡ with_bit 0 m) l.i l.initial.rows l.rows

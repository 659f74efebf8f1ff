use mathlib.Core.Path.{◌≡◌}
use Prim.Native.Nat.{ℕ, ◌*◌}
use lib.Bits.{bit_and}
use Rattle.matching.proofs.RowLaws.{Upto}
use Rattle.matching.proofs.step.Given as goal

abbrev pub invariant-loop-row : goal.invariant-loop-row
invariant-loop-row l = Upto (λ (m a r : ℕ). r ≡ bit_and a l.bytes * 2) l.row-index l.initial.rows l.rows

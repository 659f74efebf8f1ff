use mathlib.Core.Path.{◌≡◌}
use Prim.Native.Nat.{ℕ}
use Rattle.matching.specs.Bytes.{spot}
use Rattle.matching.proofs.RowLaws.{Upto}
use Rattle.matching.proofs.keep.Given as goal

abbrev pub invariant-loop-row : goal.invariant-loop-row
invariant-loop-row l = Upto (λ (m a r : ℕ). r ≡ spot a l.k) l.row-index l.initial.rows l.rows

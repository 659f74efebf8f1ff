use mathlib.Core.Path.{◌≡◌}
use Prim.Native.Nat.{ℕ}
use lib.ListN.{get_or}
use lib.Bits.{bit_or}
use Rattle.matching.proofs.RowLaws.{Upto}
use Rattle.matching.proofs.unite.Given as goal

abbrev pub invariant-loop-i : goal.invariant-loop-i
invariant-loop-i l = Upto (λ (m a r : ℕ). r ≡ bit_or a (get_or l.other m 0)) l.i l.initial.rows l.rows

use Prim.Native.Nat.{ℕ}
use Rattle.definition.specs.Text.{Text}
use Rattle.definition.specs.Pattern.{Reading}
use Rattle.matching.specs.Rows.{Turn, Turns}
use Rattle.matching.proofs.RowLaws.{Upto}
use Rattle.matching.proofs.turn.Given as goal

abbrev pub invariant-loop-row : goal.invariant-loop-row
invariant-loop-row l = Upto (λ (m a r : ℕ). (o : Reading) (e : Text) → Turn o e l.table → Turns o e l.least l.further a r) l.row-index l.initial.rows l.rows

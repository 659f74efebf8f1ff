use mathlib.Core.Path.{◌≡◌}
use Prim.Native.Nat.{suc, ◌^◌, ◌<◌}
use lib.ListN.{length}
use Rattle.definition.specs.Text.{Text}
use Rattle.definition.specs.Pattern.{Pattern, Reading, read}
use Rattle.matching.specs.Rows.{Turn}
use Rattle.matching.proofs.RowLaws.{Passed}
use Rattle.matching.proofs.all_turns.Given as goal

abbrev pub invariant-loop-k : goal.invariant-loop-k
invariant-loop-k l = (o : Reading) (e : Text) → Turn o e l.table → (p : Pattern) (ys : Text) → o ≡ read p ys → l.set < 2 ^ suc (length e) → Passed e p l.set l.k l.r

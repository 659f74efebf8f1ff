use mathlib.Core.Path.{◌≡◌}
use Rattle.definition.specs.Text.{Text}
use Rattle.definition.specs.Pattern.{Pattern, Reading, read}
use Rattle.matching.specs.Images.{ends_of}
use Rattle.matching.specs.Rows.{Turn}
use Rattle.matching.proofs.RowLaws.{low}
use Rattle.matching.proofs.image.Given as goal

abbrev pub invariant-loop-k : goal.invariant-loop-k
invariant-loop-k l = (o : Reading) (e : Text) → Turn o e l.table → (p : Pattern) (ys : Text) → o ≡ read p ys → l.r ≡ ends_of e p (low l.set l.k)

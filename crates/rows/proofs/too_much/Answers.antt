use Rattle.rows.specs.Tests.{too_much}
use mathlib.Core.Path.{ap}
use lib.Dec.{ltb}
use borrow.Author.Tests.{lt-ltb, le-ltb}
use Rattle.rows.proofs.too_much.Goals as goal

pub returns-then-n-gt4 : goal.returns-then-n-gt4
unfolding too_much
returns-then-n-gt4 c = simp (lt-ltb _ _ c.if-n-gt4.true)

pub returns : goal.returns
unfolding too_much
returns c = simp (le-ltb _ _ c.if-n-gt4.false) (ap (ltb 16) c.closures.ensures)

use Rattle.rows.specs.Tests.{same_digits}
use mathlib.Core.Path.{sym, ◌∙◌}
use Rattle.rows.proofs.same_digits.Goals as goal

pub returns-then-inside : goal.returns-then-inside
unfolding same_digits
returns-then-inside c = simp (sym c.inside.ensures ∙ c.if-inside.true) c.inside-then-inside.ensures

pub returns : goal.returns
unfolding same_digits
returns c = simp (sym c.inside.ensures ∙ c.if-inside.false)

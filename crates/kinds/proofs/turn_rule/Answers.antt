use borrow.Author.Tests.{eq-eqb, ne_eqb}
use Rattle.kinds.proofs.turn_rule.Goals as goal

pub returns-then-k-from : goal.returns-then-k-from
returns-then-k-from c = simp (eq-eqb _ _ c.if-k-from.true)

pub returns : goal.returns
returns c = simp (ne_eqb _ _ c.if-k-from.false)

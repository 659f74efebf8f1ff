use Rattle.kinds.specs.Resolved.{fact_code}
use borrow.Author.Tests.{lt-ltb, le-ltb}
use Rattle.kinds.proofs.fact_code.Goals as goal

pub returns-then-i-relations : goal.returns-then-i-relations
unfolding fact_code
returns-then-i-relations c = simp (lt-ltb _ _ c.if-i-relations.true)

pub returns : goal.returns
unfolding fact_code
returns c = simp (le-ltb _ _ c.if-i-relations.false)

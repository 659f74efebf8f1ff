use borrow.Author.Tests.{lt-ltb, le-ltb}
use Rattle.kinds.proofs.attribute_rule.Goals as goal

pub returns-then-k-lt2 : goal.returns-then-k-lt2
returns-then-k-lt2 c = simp (lt-ltb _ _ c.if-k-lt2.true)

pub returns : goal.returns
returns c = simp (le-ltb _ _ c.if-k-lt2.false)

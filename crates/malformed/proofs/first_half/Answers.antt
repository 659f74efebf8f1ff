use borrow.Author.Tests.{eq-eqb, ne_eqb}
use Rattle.words.specs.ShownPatterns.{first_half}
use Rattle.malformed.proofs.first_half.Goals as goal

pub returns-then-w-ne23 : goal.returns-then-w-ne23
unfolding first_half
returns-then-w-ne23 c = simp (ne_eqb _ _ c.if-w-ne23.true)

pub returns : goal.returns
unfolding first_half
returns c = simp (eq-eqb _ _ c.if-w-ne23.false)

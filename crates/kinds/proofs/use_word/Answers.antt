use Rattle.kinds.specs.Walk.{step}
use borrow.Author.Tests.{eq-eqb, ne_eqb, lt-ltb, le-ltb}
use borrow.Author.Rules.{rules}
use Rattle.kinds.proofs.use_word.Goals as goal

pub returns-then-kind-eq0 : goal.returns-then-kind-eq0
unfolding step
returns-then-kind-eq0 c = simp (eq-eqb _ _ c.if-kind-eq0.true) (search rules)

pub returns-then-kind-gt7 : goal.returns-then-kind-gt7
unfolding step
returns-then-kind-gt7 c = simp (ne_eqb _ _ c.if-kind-eq0.false, lt-ltb _ _ c.if-kind-gt7.true) (search rules)

pub returns : goal.returns
unfolding step
returns c = simp (le-ltb _ _ c.if-kind-gt7.false, ne_eqb _ _ c.if-kind-eq0.false) c.use_at.ensures

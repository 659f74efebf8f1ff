use borrow.Author.Tests.{eq-eqb, ne_eqb, lt-ltb, le-ltb}
use Rattle.kinds.proofs.relation_rule.Goals as goal

pub returns-then-n-gt3 : goal.returns-then-n-gt3
returns-then-n-gt3 c = simp (eq-eqb _ _ c.if-k-eq0.true, lt-ltb _ _ c.if-n-gt3.true)

pub returns-then-k-eq0 : goal.returns-then-k-eq0
returns-then-k-eq0 c = simp (eq-eqb _ _ c.if-k-eq0.true, le-ltb _ _ c.if-n-gt3.false)

pub returns-then-k-lt4 : goal.returns-then-k-lt4
returns-then-k-lt4 c = simp (ne_eqb _ _ c.if-k-eq0.false, lt-ltb _ _ c.if-k-lt4.true)

pub returns-then-k-n : goal.returns-then-k-n
returns-then-k-n c = simp (ne_eqb _ _ c.if-k-eq0.false, le-ltb _ _ c.if-k-lt4.false, eq-eqb _ _ c.if-k-n.true)

pub returns : goal.returns
returns c = simp (ne_eqb _ _ c.if-k-eq0.false, le-ltb _ _ c.if-k-lt4.false, ne_eqb _ _ c.if-k-n.false)

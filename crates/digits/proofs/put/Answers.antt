use Rattle.digits.specs.Packed.{put}
use native.Mathlib.Omega.{arith}
use borrow.Author.Tests.{eq-eqb, ne_eqb}
use Rattle.digits.proofs.put.Goals as goal

pub returns-then-a-eq0 : goal.returns-then-a-eq0
unfolding put
returns-then-a-eq0 c = (simp (eq-eqb _ _ c.if-a-eq0.true), omega arith)

pub returns-then-a-eq0-2 : goal.returns-then-a-eq0-2
unfolding put
returns-then-a-eq0-2 c = (simp (ne_eqb _ _ c.if-a-eq0.false, eq-eqb _ _ c.if-a-eq0-2.true), omega arith)

pub returns-then-a-eq0-3 : goal.returns-then-a-eq0-3
unfolding put
returns-then-a-eq0-3 c = (simp (ne_eqb _ _ c.if-a-eq0.false, ne_eqb _ _ c.if-a-eq0-2.false, eq-eqb _ _ c.if-a-eq0-3.true), omega arith)

pub returns-then-a-eq0-4 : goal.returns-then-a-eq0-4
unfolding put
returns-then-a-eq0-4 c = (simp (ne_eqb _ _ c.if-a-eq0.false, ne_eqb _ _ c.if-a-eq0-2.false, ne_eqb _ _ c.if-a-eq0-3.false, eq-eqb _ _ c.if-a-eq0-4.true), omega arith)

pub returns : goal.returns
unfolding put
returns c = (simp (ne_eqb _ _ c.if-a-eq0.false, ne_eqb _ _ c.if-a-eq0-2.false, ne_eqb _ _ c.if-a-eq0-3.false, ne_eqb _ _ c.if-a-eq0-4.false), omega arith)

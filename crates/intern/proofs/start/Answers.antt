use native.Mathlib.Omega.{arith}
use borrow.Author.Tests.{eq-eqb, ne_eqb}
use Rattle.intern.proofs.start.Goals as goal

pub returns-then-w-eq48 : goal.returns-then-w-eq48
returns-then-w-eq48 c = (simp (eq-eqb _ _ c.if-w-eq48.true), omega arith)

pub returns : goal.returns
returns c = (simp (ne_eqb _ _ c.if-w-eq48.false) (omega arith), omega arith)

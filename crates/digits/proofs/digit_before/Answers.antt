use native.Mathlib.Omega.{arith}
use borrow.Author.Tests.{eq-eqb, ne_eqb}
use Rattle.digits.proofs.digit_before.Goals as goal

pub returns-then-d-x : goal.returns-then-d-x
returns-then-d-x c = (simp (eq-eqb _ _ c.if-d-x.true), omega arith)

pub returns-else-d-x : goal.returns-else-d-x
returns-else-d-x c = (simp (ne_eqb _ _ c.if-d-x.false), omega arith)

use Rattle.slots.specs.Slots.{one_closure}
use native.Mathlib.Omega.{arith}
use borrow.Author.Tests.{eq-eqb, ne_eqb}
use Rattle.slots.proofs.one_closure.Goals as goal

pub returns-then-w-eq21 : goal.returns-then-w-eq21
unfolding one_closure
returns-then-w-eq21 c = (simp (eq-eqb _ _ c.if-w-eq21.true), omega arith)

pub returns-else-w-eq21 : goal.returns-else-w-eq21
unfolding one_closure
returns-else-w-eq21 c = (simp (ne_eqb _ _ c.if-w-eq21.false), omega arith)

use mathlib.Core.Path.{refl}
use native.Mathlib.Omega.{arith}
use borrow.Author.Tests.{eq-eqb, ne_eqb}
use Rattle.lowering.specs.Lowering.{term_byte}
use Rattle.lowering.proofs.term_byte.Goals as goal

pub returns-then-w-eq9 : goal.returns-then-w-eq9
unfolding term_byte
returns-then-w-eq9 c = (rw (eq-eqb _ _ c.if-w-eq9.true) refl, omega arith)

pub returns : goal.returns
unfolding term_byte
returns c = (rw (ne_eqb _ _ c.if-w-eq9.false, c.word_at.ensures) refl, omega arith)

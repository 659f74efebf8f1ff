use native.Mathlib.Omega.{arith}
use Rattle.facts.proofs.value_start.Goals as goal

pub returns-then-x : goal.returns-then-x
returns-then-x c = (simp c.if-x.true, omega arith)

use mathlib.Core.Path.{sym, ◌∙◌}
use native.Mathlib.Omega.{arith}
use Rattle.patterns.proofs.ByteLaws.{close_here, close_later, close_none}
use Rattle.patterns.proofs.close_at.Goals as goal

pub returns-then-s-i-eq93 : goal.returns-then-s-i-eq93
returns-then-s-i-eq93 c = record { value = sym (c.loop-i.invariant ∙ close_here _ c.loop-i.i c.loop-i-test.true c.if-s-i-eq93.true); within = (omega arith, omega arith) }

pub loop-i-preserved : goal.loop-i-preserved
loop-i-preserved c = c.loop-i.invariant ∙ close_later _ c.loop-i.i c.loop-i-test.true c.if-s-i-eq93.false

pub returns : goal.returns
returns c = record { value = sym (c.loop-i.invariant ∙ close_none _ c.loop-i.i c.loop-i-test.false ∙ (omega arith)); within = (omega arith, omega arith) }

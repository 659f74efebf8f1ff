use mathlib.Core.Path.{sym, ◌∙◌}
use native.Mathlib.Omega.{arith}
use Rattle.machine.proofs.Members.{search_hit, search_on, search_none}
use Rattle.machine.proofs.seek.Goals as goal

pub returns-then-test_bit : goal.returns-then-test_bit
returns-then-test_bit c = (search_hit _ _ _ _ c.loop-a.invariant (omega arith) (sym c.test_bit.ensures ∙ c.if-test_bit.true), omega arith)

pub loop-a-preserved : goal.loop-a-preserved
loop-a-preserved c = search_on _ _ _ _ c.loop-a.invariant (omega arith) (sym c.test_bit.ensures ∙ c.if-test_bit.false)

pub returns : goal.returns
returns c = (search_none _ _ _ _ c.loop-a.invariant (omega arith), omega arith)

use Rattle.intern.proofs.Numbering.{filled}
use native.Mathlib.Omega.{arith}
use Rattle.kinds.proofs.know_facts.Goals as goal

pub loop-i-preserved : goal.loop-i-preserved
loop-i-preserved c = let l = c.loop-i in
    filled _ l.known l.i c.fact_code.result (omega arith) c.fact_code.ensures l.invariant

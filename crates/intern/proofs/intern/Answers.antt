use native.Mathlib.Omega.{arith}
use Rattle.intern.proofs.Numbering.{filled}
use Rattle.intern.proofs.intern.Goals as goal

pub loop-t-init : goal.loop-t-init
loop-t-init c = λ t h. absurd (omega arith)

pub number-requires : goal.number-requires
number-requires c = record { i_in_bounds = omega arith; numbered = λ t h. c.loop-t.invariant t (omega arith) }

pub loop-t-preserved : goal.loop-t-preserved
loop-t-preserved c = let l = c.loop-t in
    filled _ l.ids l.t c.number.result (omega arith) c.number.ensures l.invariant

pub returns : goal.returns
returns c = let l = c.loop-t in
    λ t h. l.invariant t (omega arith)

use Prim.Native.Nat.{◌-◌}
use native.Mathlib.Omega.{arith}
use Rattle.machine.specs.Turns.{here}
use Rattle.machine.proofs.Quiets.{settled_end, settled_here, settled_on}
use Rattle.machine.proofs.settle.Goals as goal

pub returns-then-n-at : goal.returns-then-n-at
returns-then-n-at c = settled_here _ _ _ _ c.loop-at.invariant c.quiet-n.ensures c.if-n-at.true

pub loop-at-smaller : goal.loop-at-smaller
loop-at-smaller c = omega (arith, c.quiet-n.ensures.goes c.if-n-at.false)

pub loop-at-preserved : goal.loop-at-preserved
loop-at-preserved c = settled_on _ _ _ _ c.loop-at.invariant c.quiet-n.ensures c.if-n-at.false

pub returns : goal.returns
returns c = settled_end _ _ _ _ c.loop-at.invariant (omega arith)

pub loop-at-init : goal.loop-at-init
loop-at-init c = here

pub quiet-n-requires : goal.quiet-n-requires
quiet-n-requires c = (omega arith, omega arith)

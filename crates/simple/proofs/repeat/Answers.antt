use native.Mathlib.Omega.{arith}
use Rattle.simple.proofs.AssignLaws.{repeat_starts, repeat_on, repeat_ends}
use Rattle.simple.proofs.repeat.Goals as goal

pub loop-j-init : goal.loop-j-init
loop-j-init c = repeat_starts

pub bounds-words-m : goal.bounds-words-m
bounds-words-m c = omega (arith, c.loop-j.invariant.long)

pub loop-j-preserved : goal.loop-j-preserved
loop-j-preserved c = repeat_on c.loop-j.invariant c.loop-j-test.true c.leaf_at.ensures

pub returns : goal.returns
returns c = repeat_ends c.loop-j.invariant c.loop-j-test.false

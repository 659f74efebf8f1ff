use Rattle.slots.proofs.Arrays.{place_hit, place_miss, place_end}
use native.Mathlib.Omega.{arith}
use Rattle.slots.proofs.place.Goals as goal

pub returns-then-names-i : goal.returns-then-names-i
returns-then-names-i c = let l = c.loop-i in
    (place_hit _ _ l.i _ l.invariant.0 _ l.invariant.1 c.loop-i-test.true c.if-names-i.true, omega arith)

pub loop-i-preserved : goal.loop-i-preserved
loop-i-preserved c = let l = c.loop-i in
    (l.invariant.0, place_miss _ _ l.i _ l.invariant.0 _ l.invariant.1 c.loop-i-test.true c.if-names-i.false)

pub returns : goal.returns
returns c = let l = c.loop-i in
    (place_end _ _ l.i _ l.invariant.0 _ l.invariant.1 c.loop-i-test.false, omega arith)

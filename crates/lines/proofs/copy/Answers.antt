use Prim.Native.Nat.{◌+◌}
use native.Mathlib.Nat.{min-le_left}
use native.Mathlib.Omega.{arith}
use lib.ListN.{length}
use Rattle.lines.proofs.Puts.{copy_more, copy_all}
use Rattle.lines.proofs.copy.Goals as goal

pub loop-p-preserved : goal.loop-p-preserved
loop-p-preserved c = let a = c.args in
    let L = c.loop-p in
    copy_more a.out.now L.out a.s.now a.at L.p (omega arith) L.invariant (omega (arith, c.min-end.ensures, min-le_left (a.at + length a.s.now) (length a.out.now)))

pub returns : goal.returns
returns c = let a = c.args in
    let L = c.loop-p in
    copy_all a.out.now L.out a.s.now a.at L.p (omega arith) L.invariant (omega (arith, c.min-end.ensures))

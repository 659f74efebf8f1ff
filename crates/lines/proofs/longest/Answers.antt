use native.Mathlib.Omega.{arith}
use Rattle.lines.proofs.Lengths.{most_all}
use Rattle.lines.proofs.longest.Goals as goal

pub returns : goal.returns
returns c = let L = c.loop-w in (L.invariant.0, most_all c.args.places.now L.w-index L.m (omega arith) L.invariant.1)

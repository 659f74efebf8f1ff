use Prim.Native.Nat.{◌+◌, ◌-◌}
use lib.ListN.{get_or}
use lib.Seq.{sets}
use Rattle.chains.specs.Levels.{way}
use Rattle.chains.proofs.Loops.{Walking}
use Rattle.chains.proofs.walk.Given as goal

abbrev pub invariant-loop-k : goal.invariant-loop-k
invariant-loop-k l = Walking l.rows (λ j. get_or l.near j 0) (sets l.initial.buffer 1 (way l.rows (λ j. get_or l.near j 0) l.n l.a)) l.buffer l.x (l.n + 1 - l.k) l.k

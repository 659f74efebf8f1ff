use Rattle.std.proofs.Common.{◌≡◌, ◌-◌, ◌++◌, length, take, drop}
use Rattle.tuples.specs.Places.{digits}
use Rattle.tuples.proofs.tuple_of.Given as goal

abbrev pub invariant-loop-k : goal.invariant-loop-k
invariant-loop-k l = (length l.t ≡ 4) × (digits l.u l.k l.rest ++ take (l.n - l.k) (drop l.k l.t) ≡ digits l.u l.n l.i)

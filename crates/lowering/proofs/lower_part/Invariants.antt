use Prim.Native.Nat.{◌≤◌}
use mathlib.Core.Path.{◌≡◌}
use lib.ListN.{length}
use Rattle.lowering.specs.Lowering.{at, token_values, closures_before, lower_at, Filled}
use Rattle.lowering.proofs.lower_part.Given as goal

abbrev pub invariant-loop-k : goal.invariant-loop-k
invariant-loop-k l = (l.c ≤ l.k) × (length l.low ≡ length l.initial.low) × (l.c ≡ closures_before (at l.words) l.lo l.k)
    × Filled (lower_at (at l.words) (at l.codes) (at l.tokens) (at l.free) (token_values l.facts l.query l.places (at l.tokens)) l.u l.lo) l.lo l.k l.initial.low l.low

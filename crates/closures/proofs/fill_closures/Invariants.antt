use Prim.Native.Nat.{◌-◌}
use mathlib.Core.Path.{◌≡◌}
use lib.ListN.{length}
use Rattle.closures.specs.Filling.{fill_words}
use Rattle.closures.proofs.fill_closures.Given as goal

abbrev pub invariant-loop-k : goal.invariant-loop-k
invariant-loop-k l = (length l.store ≡ length l.initial.store) × (fill_words l.firsts l.vars l.u l.nodes (l.hi - l.k) l.k l.store ≡ fill_words l.firsts l.vars l.u l.nodes (l.hi - l.lo) l.lo l.initial.store)

abbrev pub decreases-loop-k : goal.decreases-loop-k
decreases-loop-k l = l.hi - l.k

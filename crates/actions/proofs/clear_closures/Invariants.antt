use Prim.Native.Nat.{◌-◌}
use mathlib.Core.Path.{◌≡◌}
use lib.ListN.{length}
use Rattle.actions.specs.Parts.{clear_words}
use Rattle.actions.proofs.clear_closures.Given as goal

abbrev pub invariant-loop-k : goal.invariant-loop-k
invariant-loop-k l = (length l.store ≡ length l.initial.store) × (clear_words l.firsts l.u l.nodes (l.hi - l.k) l.k l.store ≡ clear_words l.firsts l.u l.nodes (l.hi - l.lo) l.lo l.initial.store)

abbrev pub decreases-loop-k : goal.decreases-loop-k
decreases-loop-k l = l.hi - l.k

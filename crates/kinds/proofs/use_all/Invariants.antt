use Rattle.kinds.specs.Walk.{walk, state}
use lib.ListN.{drop}
use mathlib.Core.Path.{◌≡◌}
use Prim.Native.Nat.{◌≤◌}
use Rattle.kinds.proofs.use_all.Given as goal

abbrev pub invariant-loop-w : goal.invariant-loop-w
invariant-loop-w l = (l.count ≤ 16)
    × (walk l.tokens l.ids l.words (state l.initial.known l.initial.relations l.given) ≡ walk l.tokens l.ids (drop l.w-index l.words) (state l.known l.relations l.count))

use Prim.Native.Nat.{◌≤◌, min}
use mathlib.Core.Path.{◌≡◌}
use lib.ListN.{drop}
use Rattle.definition.specs.Token.{value, value_after}
use Rattle.texts.proofs.value.Given as goal

abbrev pub invariant-loop-b : goal.invariant-loop-b
invariant-loop-b l = (l.v ≤ 1_000_000) × (min (value l.s) 1_000_000 ≡ min (value_after l.v (drop l.b-index l.s)) 1_000_000)

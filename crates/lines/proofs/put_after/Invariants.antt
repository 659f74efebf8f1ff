use Prim.Native.Nat.{ℕ, ◌+◌, ◌-◌, ◌≤◌}
use mathlib.Core.Path.{◌≡◌}
use mathlib.Core.List.{List}
use lib.ListN.{length, take, drop}
use Rattle.definition.specs.Text.{gather}
use Rattle.lines.specs.Put.{Put}
use Rattle.lines.specs.Lines.{texts, after}
use Rattle.lines.proofs.put_after.Given as goal

abbrev pub invariant-loop-k : goal.invariant-loop-k
invariant-loop-k l = (l.p ≤ length l.out + 1) × (length l.out ≡ length l.initial.out)
    × ((r : ℕ) (o : List ℕ) → Put l.write l.out l.p (gather (after (texts l.facts l.query l.places)) (take (l.n - l.k) (drop l.k l.t))) r o
    → Put l.write l.initial.out l.at (gather (after (texts l.facts l.query l.places)) (take (l.n - l.from) (drop l.from l.t))) r o)

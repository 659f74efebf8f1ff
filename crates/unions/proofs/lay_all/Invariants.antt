use Prim.Native.Nat.{ℕ, ◌*◌, ◌≤◌}
use mathlib.Core.Path.{◌≡◌}
use mathlib.Core.List.{List}
use lib.ListN.{length, drop}
use Rattle.lines.specs.Lines.{texts}
use Rattle.unions.specs.Union.{Laid, all_lines}
use Rattle.unions.proofs.lay_all.Given as goal

abbrev pub invariant-loop-v : goal.invariant-loop-v
invariant-loop-v l = (l.p ≤ 16777216 * l.v-index) × (length l.out ≡ length l.initial.out)
    × ((r : ℕ) (o : List ℕ) → Laid l.write l.out l.p (all_lines (texts l.facts l.query l.places) l.relations l.numbers (drop l.v-index l.some)) r o
    → Laid l.write l.initial.out 0 (all_lines (texts l.facts l.query l.places) l.relations l.numbers l.some) r o)

use Prim.Native.Nat.{ℕ, ◌+◌, ◌*◌, ◌≤◌}
use mathlib.Core.Path.{◌≡◌}
use mathlib.Core.List.{List}
use lib.ListN.{length, drop}
use Rattle.lines.specs.Lines.{texts}
use Rattle.unions.specs.Union.{Laid, number_lines}
use Rattle.unions.proofs.lay_relation.Given as goal

abbrev pub invariant-loop-x : goal.invariant-loop-x
invariant-loop-x l = (l.p ≤ l.at + 512 * l.x-index) × (length l.out ≡ length l.initial.out)
    × ((r : ℕ) (o : List ℕ) → Laid l.write l.out l.p (number_lines (texts l.facts l.query l.places) l.name l.k l.n (drop l.x-index l.numbers)) r o
    → Laid l.write l.initial.out l.at (number_lines (texts l.facts l.query l.places) l.name l.k l.n l.numbers) r o)

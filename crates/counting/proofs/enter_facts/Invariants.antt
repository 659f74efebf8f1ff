use Prim.Native.Nat.{ℕ, ◌+◌, ◌-◌, ◌*◌, ◌≤◌}
use mathlib.Core.Path.{◌≡◌}
use mathlib.Core.List.{List}
use lib.ListN.{length, take}
use Rattle.definition.specs.Text.{Text}
use Rattle.definition.specs.Facts.{Fact}
use Rattle.definition.specs.Accept.{Accepted}
use Rattle.definition.proofs.InLaws.{In}
use Rattle.facts.specs.Reading.{facts_from, all_facts}
use Rattle.numbers.specs.Sets.{Ascending}
use Rattle.loading.specs.Given.{Stated}
use Rattle.counting.specs.FactNumbers.{number_set}
use Rattle.counting.proofs.Entering.{Entered}
use Rattle.counting.proofs.enter_facts.Given as goal

abbrev Told : Text → Text → List ℕ → List ℕ → List ℕ → ℕ → List ℕ → Type 0
Told facts query relations places set at set' =
    (w : Accepted) → Stated facts query relations places w → (gs : List Fact) → set ≡ number_set w gs → ((g : Fact) → In g (all_facts facts) → In g w.facts) → Entered w gs (all_facts facts) (facts_from facts at) set'

abbrev pub invariant-loop-a : goal.invariant-loop-a
invariant-loop-a l = (length l.words ≡ length l.initial.words) × (l.count ≤ l.n + 16384) × (2 * l.count ≤ 2 * l.n + l.at) × Ascending (take l.count l.words) × Told l.facts l.query l.relations l.places (take l.n l.initial.words) l.at (take l.count l.words)

abbrev pub decreases-loop-a : goal.decreases-loop-a
decreases-loop-a l = length l.facts + 1 - l.at

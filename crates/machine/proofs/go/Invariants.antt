use Prim.Native.Nat.{ℕ, ◌-◌}
use mathlib.Core.Path.{◌≡◌, refl}
use mathlib.Core.List.{List}
use native.Mathlib.Omega.{arith}
use lib.ListN.{length}
use Rattle.lines.specs.Lines.{Texts, texts}
use Rattle.actions.specs.Doing.{print_by}
use Rattle.machine.specs.Actions.{Actions}
use Rattle.machine.specs.Turns.{Held, held}
use Rattle.machine.specs.Bound.{actions, CountsRight}
use Rattle.machine.proofs.Goings.{Going}
use Rattle.machine.proofs.go.Given as goal

abbrev all : List ℕ → List ℕ → ℕ → ℕ → Texts → Actions
all words firsts u scr T = actions words firsts u scr (print_by words firsts u T)

-- The machine stands in the run that it stood in at the start, and the counts stay right.
abbrev pub invariant-loop-u : goal.invariant-loop-u
invariant-loop-u l =
    (length l.store ≡ length l.initial.store) × (length l.out ≡ length l.initial.out)
    × Going (all l.words l.firsts l.u l.scr (texts l.facts l.query l.places)) l.u l.words l.limit
    (held l.initial.pc l.initial.used l.initial.store l.initial.out l.initial.sets l.initial.cursors l.initial.vars) l.initial.steps
    (held l.pc l.used l.store l.out l.sets l.cursors l.vars) l.steps
    × CountsRight (all l.words l.firsts l.u l.scr (texts l.facts l.query l.places)) l.u l.words l.firsts
    (held l.initial.pc l.initial.used l.initial.store l.initial.out l.initial.sets l.initial.cursors l.initial.vars) l.initial.steps l.initial.counts l.steps l.counts

abbrev pub decreases-loop-u : goal.decreases-loop-u
decreases-loop-u l = l.limit - l.steps

use Prim.Native.Nat.{◌+◌, ◌≤◌, ◌-◌}
use mathlib.Core.Path.{◌≡◌}
use lib.ListN.{length, drop}
use Rattle.definition.specs.Text.{span}
use Rattle.texts.specs.Classes.{is_of}
use Rattle.texts.proofs.run_end.Given as goal

abbrev pub invariant-loop-b : goal.invariant-loop-b
invariant-loop-b l = (l.at ≤ l.i) × (l.i ≤ length l.s) × (l.at + span (is_of l.k) (drop l.at l.s) ≡ l.i + span (is_of l.k) (drop l.i l.s))

abbrev pub decreases-loop-b : goal.decreases-loop-b
decreases-loop-b l = length l.s - l.i

use mathlib.Core.Path.{◌≡◌}
use lib.ListN.{length}
use Rattle.hints.proofs.shift.Given as goal

abbrev pub invariant-loop-k : goal.invariant-loop-k
invariant-loop-k l = length l.hints ≡ length l.initial.hints

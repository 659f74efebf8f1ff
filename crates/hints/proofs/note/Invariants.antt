use mathlib.Core.Path.{◌≡◌}
use lib.ListN.{length}
use Rattle.hints.proofs.note.Given as goal

abbrev pub invariant-loop-j : goal.invariant-loop-j
invariant-loop-j l = length l.hints ≡ length l.initial.hints

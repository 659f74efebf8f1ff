use mathlib.Core.Path.{◌≡◌}
use lib.ListN.{length}
use Rattle.hints.proofs.hints_of.Given as goal

abbrev pub invariant-loop-k : goal.invariant-loop-k
invariant-loop-k l = length l.hints ≡ 256

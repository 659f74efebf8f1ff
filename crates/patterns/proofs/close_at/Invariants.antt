use mathlib.Core.Path.{◌≡◌}
use Rattle.patterns.specs.Ends.{to_close_at}
use Rattle.patterns.proofs.close_at.Given as goal

abbrev pub invariant-loop-i : goal.invariant-loop-i
invariant-loop-i l = to_close_at l.s l.at ≡ to_close_at l.s l.i

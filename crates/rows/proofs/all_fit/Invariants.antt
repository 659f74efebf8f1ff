use Rattle.rows.specs.Tests.{all_fit}
use Rattle.free.specs.Words.{at}
use lib.ListN.{drop}
use mathlib.Core.Path.{◌≡◌}
use Prim.Native.Nat.{◌+◌}
use Rattle.rows.proofs.all_fit.Given as goal

abbrev pub invariant-loop-i : goal.invariant-loop-i
invariant-loop-i l = all_fit (at l.fr) l.part l.s ≡ all_fit (at l.fr) (drop l.i l.part) (l.s + l.i)

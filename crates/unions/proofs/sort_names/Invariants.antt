use Rattle.unions.proofs.Sorting.{Sorting}
use Rattle.unions.proofs.sort_names.Given as goal

abbrev pub invariant-loop-i : goal.invariant-loop-i
invariant-loop-i l = Sorting l.facts l.query l.relations l.words l.n l.i

use lib.ListN.{replicate}
use Rattle.counts.proofs.Ones.{Tallying}
use Rattle.counts.proofs.count_all.Given as goal

abbrev pub invariant-loop-i : goal.invariant-loop-i
invariant-loop-i l = Tallying l.store l.u l.relations (replicate 16 0) l.off l.i l.counts

use lib.ListN.{replicate}
use Rattle.counting.proofs.TallyLaws.{Tallying}
use Rattle.counting.proofs.tally.Given as goal

abbrev pub invariant-loop-n : goal.invariant-loop-n
invariant-loop-n l = Tallying l.numbers (replicate 16 0) l.counts l.n-index

use lib.ListN.{get_or}
use Rattle.chains.specs.Levels.{meets}
use Rattle.chains.proofs.Least.{Seeking}
use Rattle.chains.proofs.first_met.Given as goal

abbrev pub invariant-loop-k : goal.invariant-loop-k
invariant-loop-k l = Seeking 64 (λ j. meets l.row (get_or l.near j 0)) l.k

use Rattle.matching.proofs.+more_turns.Given as goal

abbrev pub decreases-more_turns : goal.decreases-more_turns
decreases-more_turns l = l.k

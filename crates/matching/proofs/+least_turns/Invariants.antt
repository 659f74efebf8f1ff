use Rattle.matching.proofs.+least_turns.Given as goal

abbrev pub decreases-least_turns : goal.decreases-least_turns
decreases-least_turns l = l.k

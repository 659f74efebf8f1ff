use Rattle.patterns.proofs.+atom_end_branch_end_branches_end_piece_end.Given as goal

abbrev pub decreases-atom_end : goal.decreases-atom_end
decreases-atom_end l = l.n

abbrev pub decreases-branch_end : goal.decreases-branch_end
decreases-branch_end l = l.n

abbrev pub decreases-branches_end : goal.decreases-branches_end
decreases-branches_end l = l.n

abbrev pub decreases-piece_end : goal.decreases-piece_end
decreases-piece_end l = l.n

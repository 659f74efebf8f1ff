use Rattle.matching.proofs.+atom_rows_branch_rows_branches_rows_piece_rows.Given as goal

abbrev pub decreases-atom_rows : goal.decreases-atom_rows
decreases-atom_rows l = l.n

abbrev pub decreases-branch_rows : goal.decreases-branch_rows
decreases-branch_rows l = l.n

abbrev pub decreases-branches_rows : goal.decreases-branches_rows
decreases-branches_rows l = l.n

abbrev pub decreases-piece_rows : goal.decreases-piece_rows
decreases-piece_rows l = l.n

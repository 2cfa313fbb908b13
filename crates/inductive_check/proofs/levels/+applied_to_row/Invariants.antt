use Rattle.inductive_check.proofs.levels.+applied_to_row.Given as goal

abbrev pub decreases-applied_to_row : goal.decreases-applied_to_row
decreases-applied_to_row l = l.count

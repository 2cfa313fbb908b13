use Rattle.inductive_check.proofs.levels.+applied_from.Given as goal

abbrev pub decreases-applied_from : goal.decreases-applied_from
decreases-applied_from l = l.at

use Rattle.inductive_check.proofs.entries.+levels_of.Given as goal

abbrev pub decreases-levels_of : goal.decreases-levels_of
decreases-levels_of l = l.count

use Rattle.elaborator.proofs.constructors.+apply_oldest.Given as goal

abbrev pub decreases-apply_oldest : goal.decreases-apply_oldest
decreases-apply_oldest l = l.params

use Rattle.elaborator.proofs.spine.+times.Given as goal

abbrev pub decreases-times : goal.decreases-times
decreases-times l = l.n

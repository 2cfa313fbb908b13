use Rattle.std.proofs.Common.{length}
use Rattle.move_elim.proofs.elimination.+with_variables.Given as goal

abbrev pub decreases-with_variables : goal.decreases-with_variables
decreases-with_variables l = length l.places.now

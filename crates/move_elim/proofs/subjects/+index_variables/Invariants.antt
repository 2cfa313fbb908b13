use Rattle.std.specs.Prelude.{length}
use Rattle.move_elim.proofs.subjects.+index_variables.Given as goal

abbrev pub decreases-index_variables : goal.decreases-index_variables
decreases-index_variables l = length l.args.now

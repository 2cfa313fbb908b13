use Rattle.std.specs.Prelude.{length}
use Rattle.move_elim.proofs.subjects.+values_of.Given as goal

abbrev pub decreases-values_of : goal.decreases-values_of
decreases-values_of l = length l.args.now

use Rattle.std.specs.Prelude.{length}
use Rattle.move_elim.proofs.subjects.+skipped.Given as goal

abbrev pub decreases-skipped : goal.decreases-skipped
decreases-skipped l = length l.args.now

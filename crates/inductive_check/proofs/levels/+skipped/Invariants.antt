use Rattle.std.specs.Prelude.{length}
use Rattle.inductive_check.proofs.levels.+skipped.Given as goal

abbrev pub decreases-skipped : goal.decreases-skipped
decreases-skipped l = length l.args.now

use Rattle.std.specs.Prelude.{length}
use Rattle.inductive_check.proofs.levels.+applied_to_all.Given as goal

abbrev pub decreases-applied_to_all : goal.decreases-applied_to_all
decreases-applied_to_all l = length l.args.now

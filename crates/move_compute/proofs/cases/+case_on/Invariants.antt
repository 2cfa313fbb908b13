use Rattle.std.specs.Prelude.{length}
use Rattle.move_compute.proofs.cases.+case_on.Given as goal

abbrev pub decreases-case_on : goal.decreases-case_on
decreases-case_on l = length l.args.now

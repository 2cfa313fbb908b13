use Rattle.std.proofs.Common.{length}
use Rattle.move_elim.proofs.cases.+with_cases.Given as goal

abbrev pub decreases-with_cases : goal.decreases-with_cases
decreases-with_cases l = length l.ctors.now

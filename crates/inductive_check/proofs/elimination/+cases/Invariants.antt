use Rattle.std.specs.Prelude.{length}
use Rattle.inductive_check.proofs.elimination.+cases.Given as goal

abbrev pub decreases-cases : goal.decreases-cases
decreases-cases l = length l.ctors.now

use Rattle.std.proofs.Common.{length}
use Rattle.move_elim.proofs.branches.+with_given.Given as goal

abbrev pub decreases-with_given : goal.decreases-with_given
decreases-with_given l = length l.given.now

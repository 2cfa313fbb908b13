use Rattle.std.proofs.Common.{length}
use Rattle.move_elim.proofs.branches.+have_too_many.Given as goal

abbrev pub decreases-have_too_many : goal.decreases-have_too_many
decreases-have_too_many l = length l.flags.now

use Rattle.std.proofs.Common.{length}
use Rattle.move_elim.proofs.branches.+has_too_many.Given as goal

abbrev pub decreases-has_too_many : goal.decreases-has_too_many
decreases-has_too_many l = length l.flags.now

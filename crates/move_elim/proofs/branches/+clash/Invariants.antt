use Rattle.std.proofs.Common.{length}
use Rattle.move_elim.proofs.branches.+clash.Given as goal

abbrev pub decreases-clash : goal.decreases-clash
decreases-clash l = length l.given.now

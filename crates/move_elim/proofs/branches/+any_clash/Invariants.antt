use Rattle.std.proofs.Common.{length}
use Rattle.move_elim.proofs.branches.+any_clash.Given as goal

abbrev pub decreases-any_clash : goal.decreases-any_clash
decreases-any_clash l = length l.branches.now

use Rattle.std.proofs.Common.{length}
use Rattle.elaborator.proofs.arrangement.+filled.Given as goal

abbrev pub decreases-filled : goal.decreases-filled
decreases-filled l = length l.seats.now

use Rattle.std.proofs.Common.{length}
use Rattle.move_elim.proofs.elimination.+hidden.Given as goal

abbrev pub decreases-hidden : goal.decreases-hidden
decreases-hidden l = length l.places.now

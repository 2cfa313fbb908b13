use Rattle.std.proofs.Common.{length}
use Rattle.move_elim.proofs.elimination.+push_plain.Given as goal

abbrev pub decreases-push_plain : goal.decreases-push_plain
decreases-push_plain l = length l.places.now

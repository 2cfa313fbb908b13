use Rattle.std.proofs.Common.{length}
use Rattle.move_elim.proofs.generalised.+has.Given as goal

abbrev pub decreases-has : goal.decreases-has
decreases-has l = length l.places.now

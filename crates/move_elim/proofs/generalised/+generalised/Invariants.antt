use Rattle.std.proofs.Common.{length}
use Rattle.move_elim.proofs.generalised.+generalised.Given as goal

abbrev pub decreases-generalised : goal.decreases-generalised
decreases-generalised l = length l.places.now

use Rattle.std.proofs.Common.{length}
use Rattle.move_elim.proofs.claims.+stand_for_all.Given as goal

abbrev pub decreases-stand_for_all : goal.decreases-stand_for_all
decreases-stand_for_all l = length l.variables.now

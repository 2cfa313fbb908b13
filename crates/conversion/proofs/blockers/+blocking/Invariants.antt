use Rattle.std.specs.Prelude.{◌+◌, ◌*◌}
use Rattle.conversion.proofs.blockers.+blocking.Given as goal

abbrev pub decreases-blocker : goal.decreases-blocker
decreases-blocker l = l.majors * 3

abbrev pub decreases-blocker_of_global : goal.decreases-blocker_of_global
decreases-blocker_of_global l = l.majors * 3 + 2

abbrev pub decreases-blocker_of_major : goal.decreases-blocker_of_major
decreases-blocker_of_major l = l.majors * 3 + 1

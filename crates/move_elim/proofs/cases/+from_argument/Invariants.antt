use Rattle.std.proofs.Common.{◌*◌, ◌+◌, length}
use Rattle.move_elim.proofs.cases.+from_argument.Given as goal

abbrev pub decreases-case_from : goal.decreases-case_from
decreases-case_from l = 3 * length l.flags.now

abbrev pub decreases-under_argument : goal.decreases-under_argument
decreases-under_argument l = 3 * length l.later.now + 2

abbrev pub decreases-behind_hypothesis : goal.decreases-behind_hypothesis
decreases-behind_hypothesis l = 3 * length l.later.now + 1

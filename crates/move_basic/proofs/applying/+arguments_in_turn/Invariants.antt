use Rattle.std.proofs.Common.{◌-◌, ◌*◌}
use Rattle.move_basic.proofs.applying.+arguments_in_turn.Given as goal

abbrev pub decreases-with_arguments : goal.decreases-with_arguments
decreases-with_arguments g l = 2 * l.count

abbrev pub decreases-next_argument : goal.decreases-next_argument
decreases-next_argument g l = 2 * l.count - 1

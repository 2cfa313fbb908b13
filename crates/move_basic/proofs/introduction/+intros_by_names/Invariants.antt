use Rattle.std.proofs.Common.{◌+◌, ◌-◌, ◌*◌, length}
use Rattle.move_basic.proofs.introduction.+intros_by_names.Given as goal

abbrev pub decreases-intros_named : goal.decreases-intros_named
decreases-intros_named g l = 2 * (length l.words.now - l.at)

abbrev pub decreases-named_behind : goal.decreases-named_behind
decreases-named_behind g l = 2 * (length l.words.now - l.at) + 1

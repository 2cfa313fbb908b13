use Rattle.std.proofs.Common.{◌≡◌, ◌++◌, length}
use Rattle.bullet_focus.proofs.stack.with_all_first.Given as goal

abbrev pub invariant-loop-goal : goal.invariant-loop-goal
invariant-loop-goal l = l.rest ++ l.stack ≡ l.initial.rest ++ l.initial.stack

abbrev pub decreases-loop-goal : goal.decreases-loop-goal
decreases-loop-goal l = length l.rest

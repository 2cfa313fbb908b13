use Rattle.std.proofs.Common.{◌≡◌, ◌++◌, drop}
use Rattle.bullet_focus.proofs.stack.append.Given as goal

abbrev pub invariant-loop-at : goal.invariant-loop-at
invariant-loop-at l = l.all ++ drop l.at l.goals ≡ l.initial.all ++ l.goals

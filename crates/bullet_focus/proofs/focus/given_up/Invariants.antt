use Rattle.std.proofs.Common.{◌≡◌, ◌++◌, drop, take}
use Rattle.bullet_focus.specs.Levels.{waiting_in}
use Rattle.bullet_focus.specs.Steps.{given_up}
use Rattle.bullet_focus.proofs.focus.given_up.Given as goal

abbrev pub invariant-loop-at : goal.invariant-loop-at
invariant-loop-at l = l.all ++ waiting_in (drop l.at (take l.count l.levels)) ≡ given_up l.goals l.levels l.count

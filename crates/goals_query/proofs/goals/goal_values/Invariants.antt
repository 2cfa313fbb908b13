use Rattle.std.proofs.Common.{◌≡◌, ◌++◌, map, drop}
use Rattle.serde_json.specs.View.{view}
use Rattle.goals_query.specs.Goals.{goal_data}
use Rattle.goals_query.proofs.goals.goal_values.Given as goal

abbrev pub invariant-loop-goal : goal.invariant-loop-goal
invariant-loop-goal l = map view l.values.items ++ map goal_data (drop l.goal-index l.goals) ≡ map goal_data l.goals

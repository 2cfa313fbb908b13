use Rattle.std.proofs.Common.{◌≡◌, ◌++◌, map, drop}
use Rattle.serde_json.specs.View.{view}
use Rattle.goals_query.specs.Goals.{level_data}
use Rattle.goals_query.proofs.goals.level_values.Given as goal

abbrev pub invariant-loop-level : goal.invariant-loop-level
invariant-loop-level l = map view l.values.items ++ map level_data (drop l.level-index l.levels) ≡ map level_data l.levels

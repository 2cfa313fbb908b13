use Rattle.std.proofs.Common.{◌≡◌, ◌++◌, map, drop}
use Rattle.serde_json.specs.View.{view}
use Rattle.goals_query.specs.Goals.{hyp_data}
use Rattle.goals_query.proofs.goals.hyp_values.Given as goal

abbrev pub invariant-loop-hyp : goal.invariant-loop-hyp
invariant-loop-hyp l = map view l.values.items ++ map hyp_data (drop l.hyp-index l.hyps) ≡ map hyp_data l.hyps

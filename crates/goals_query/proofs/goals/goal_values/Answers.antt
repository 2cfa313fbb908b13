use Rattle.goals_query.specs.Goals.{goal_data}
use Rattle.goals_query.proofs.Lists.{values_more}
use Rattle.goals_query.proofs.goals.goal_values.Goals as goal

pub loop-goal-preserved : goal.loop-goal-preserved
loop-goal-preserved c =
    values_more goal_data c.args.goals.now c.loop-goal.goal-index c.goal-item.result c.loop-goal.values.items c.push.new.self.items c.in_ok-goal_value.field-0
    c.loop-goal-test.true c.goal-item.is c.in_ok-push.ensures.items c.in_ok-goal_value.ensures c.loop-goal.invariant

use Rattle.goals_query.specs.Goals.{level_data}
use Rattle.goals_query.proofs.Lists.{values_more}
use Rattle.goals_query.proofs.goals.level_values.Goals as goal

pub loop-level-preserved : goal.loop-level-preserved
loop-level-preserved c =
    values_more level_data c.args.levels.now c.loop-level.level-index c.level-item.result c.loop-level.values.items c.push.new.self.items c.in_ok-level_value.field-0
    c.loop-level-test.true c.level-item.is c.in_ok-push.ensures.items c.in_ok-level_value.ensures c.loop-level.invariant

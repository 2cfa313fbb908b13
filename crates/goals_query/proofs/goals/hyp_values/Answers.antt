use Rattle.goals_query.specs.Goals.{hyp_data}
use Rattle.goals_query.proofs.Lists.{values_more}
use Rattle.goals_query.proofs.goals.hyp_values.Goals as goal

pub loop-hyp-preserved : goal.loop-hyp-preserved
loop-hyp-preserved c =
    values_more hyp_data c.args.hyps.now c.loop-hyp.hyp-index c.hyp-item.result c.loop-hyp.values.items c.push.new.self.items c.in_ok-hyp_value.field-0
    c.loop-hyp-test.true c.hyp-item.is c.in_ok-push.ensures.items c.in_ok-hyp_value.ensures c.loop-hyp.invariant

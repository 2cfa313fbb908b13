use Rattle.std.proofs.Common.{rules}
use Rattle.vernac_exec.proofs.ShownGoals.{goal_shown}
use Rattle.vernac_exec.proofs.views.listed_views.Goals as goal

pub loop-at-preserved : goal.loop-at-preserved
loop-at-preserved c =
    goal_shown c.args.env.now c.args.proof.now.goals c.args.numbers.now c.loop-at.at c.in-Some.n.now c.loop-at.views c.add_goal.new.views _
    (search rules) c.loop-at.invariant (search rules)

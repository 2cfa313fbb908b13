use Rattle.std.proofs.Common.{rules}
use Rattle.vernac_exec.proofs.ShownGoals.{level_shown}
use Rattle.vernac_exec.proofs.views.level_views.Goals as goal

pub loop-level-preserved : goal.loop-level-preserved
loop-level-preserved c =
    level_shown c.args.env.now c.args.proof.now.goals c.args.focus.now.levels c.loop-level.level c.in_ok-stack_views.field-0 c.loop-level.views
    c.push.new.self _ (search rules) (search rules) c.loop-level.invariant (search rules)

use Rattle.std.proofs.Common.{subst}
use Rattle.core_term.specs.Answers.{within_limits, Gives}
use Rattle.inductive_check.proofs.LevelLaws.{values_whole}
use Rattle.inductive_check.proofs.levels.applied_to_context.Goals as goal

pub returns : goal.returns
returns c =
    subst (λ t. Gives c.applied_from.result (within_limits t))
    (values_whole c.args.function c.args.site.now.depth c.args.site.now.levels c.len.result c.len.ensures.count) c.applied_from.ensures

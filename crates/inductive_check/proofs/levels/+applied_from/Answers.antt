use Rattle.std.proofs.Common.{◌-◌, take, [], arith, rules}
use Rattle.cic_rules.specs.Families.{newest_first}
use Rattle.inductive_check.specs.Levels.{variable_at, values_at}
use Rattle.inductive_check.proofs.LevelLaws.{values_next, applied_gives, applied_ends}
use Rattle.inductive_check.proofs.levels.+applied_from.Goals as goal

pub returns-in-Ok : goal.returns-in-Ok
returns-in-Ok t c =
    applied_gives c.applied_from.result c.args.function c.in_ok-variable.variable (variable_at c.args.site.now.depth c.in-Some.level.now) c.in-Ok.next _
    (newest_first (take (c.args.at - 1) (values_at c.args.site.now.depth c.args.site.now.levels)) []) c.in_ok-variable.ensures c.in-Ok.ensures
    (values_next c.args.function c.args.site.now.depth c.args.site.now.levels c.args.at c.in-Some.level.now (grind arith) (search rules)) c.applied_from.ensures

pub returns-in-Err : goal.returns-in-Err
returns-in-Err t c =
    applied_ends c.in-Err.stop c.args.function c.in_ok-variable.variable (variable_at c.args.site.now.depth c.in-Some.level.now) _
    (newest_first (take (c.args.at - 1) (values_at c.args.site.now.depth c.args.site.now.levels)) []) c.in_ok-variable.ensures
    (values_next c.args.function c.args.site.now.depth c.args.site.now.levels c.args.at c.in-Some.level.now (grind arith) (search rules)) c.in-Err.ensures

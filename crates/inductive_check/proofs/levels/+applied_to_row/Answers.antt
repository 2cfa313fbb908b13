use Rattle.std.proofs.Common.{◌+◌, ◌-◌, arith}
use Rattle.core_term.specs.Tree.{Var}
use Rattle.inductive_check.specs.Forms.{params_under}
use Rattle.inductive_check.proofs.LevelLaws.{row_next, applied_gives, applied_ends}
use Rattle.inductive_check.proofs.levels.+applied_to_row.Goals as goal

pub returns-in-Ok : goal.returns-in-Ok
returns-in-Ok t c =
    applied_gives c.applied_to_row.result c.args.function c.in_ok-variable.variable (Var (c.args.count - 1 + c.args.offset)) c.in-Ok.next _
    (params_under c.args.offset (c.args.count - 1)) c.in_ok-variable.ensures c.in-Ok.ensures
    (row_next c.args.function c.args.offset c.args.count (grind arith)) c.applied_to_row.ensures

pub returns-in-Err : goal.returns-in-Err
returns-in-Err t c =
    applied_ends c.in-Err.stop c.args.function c.in_ok-variable.variable (Var (c.args.count - 1 + c.args.offset)) _
    (params_under c.args.offset (c.args.count - 1)) c.in_ok-variable.ensures (row_next c.args.function c.args.offset c.args.count (grind arith)) c.in-Err.ensures

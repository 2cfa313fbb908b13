use Rattle.std.specs.Prelude.{length}
use Rattle.move_rewrite.proofs.Replacements.{free_in_scope, goal_numbered}
use Rattle.move_rewrite.proofs.Sides.{other_scoped}
use Rattle.move_rewrite.proofs.sketches.rewritten.Goals as goal

pub with_new_variable-requires-clause-subterm : goal.with_new_variable-requires-clause-subterm
with_new_variable-requires-clause-subterm c =
    free_in_scope (length c.args.ctx.now) (length c.args.env.now) _ c.requires.found.subterm c.len-count.ensures.context.short

pub with_new_variable-requires-clause-term : goal.with_new_variable-requires-clause-term
with_new_variable-requires-clause-term c =
    free_in_scope (length c.args.ctx.now) (length c.args.env.now) _ c.requires.goal c.len-count.ensures.context.short

pub rewritten_by-requires-clause-ty : goal.rewritten_by-requires-clause-ty
rewritten_by-requires-clause-ty c =
    free_in_scope (length c.args.ctx.now) (length c.args.env.now) _ c.in_ok-equation.ensures.scoped.ty c.len-count.ensures.context.short

pub rewritten_by-requires-clause-left : goal.rewritten_by-requires-clause-left
rewritten_by-requires-clause-left c =
    free_in_scope (length c.args.ctx.now) (length c.args.env.now) _ c.in_ok-equation.ensures.scoped.left c.len-count.ensures.context.short

pub rewritten_by-requires-clause-numbered : goal.rewritten_by-requires-clause-numbered
rewritten_by-requires-clause-numbered c =
    goal_numbered (length c.args.ctx.now) (length c.args.env.now) c.args.found.now.subterm c.args.goal.now c.in_ok-body.body c.other_of.result.now _
    c.in_ok-body.ensures c.other_of.ensures c.requires.goal
    (other_scoped c.args.direction (length c.args.ctx.now) (length c.args.env.now) c.in_ok-equation.equation c.in_ok-equation.ensures.scoped)
    c.len-count.ensures.context.short c.depth-body.ensures.term c.depth-other.ensures.term

use Rattle.std.proofs.Common.{sym, ap, ◌∙◌, arith}
use Rattle.core_term.specs.Nodes.{tree_of}
use Rattle.move_basic.proofs.Arguments.{one_more}
use Rattle.move_basic.proofs.applying.+arguments_in_turn.Goals as goal

pub with_arguments-returns-else-count-eq0-clause-answer : goal.with_arguments-returns-else-count-eq0-clause-answer
with_arguments-returns-else-count-eq0-clause-answer g t c =
    one_more c.args.env.now c.args.ctx.now c.args.values.now c.args.count _ c.in-Prod.name _ _ c.args.function c.args.fuel.now _ _
    (grind (arith, c.if-count-eq0.false)) (sym c.node.ensures.top ∙ ap tree_of c.in-Prod.is) c.next_argument.ensures.answer

use Rattle.std.proofs.Common.{rules, sym, ap, ◌∙◌}
use Rattle.core_term.specs.Nodes.{tree_of}
use Rattle.cic_rules.specs.Fuel.{left}
use Rattle.move_basic.proofs.Arguments.{next_codomain}
use Rattle.move_rewrite.proofs.RunsInTurn.{argument_made, argument_stopped}
use Rattle.move_rewrite.proofs.arguments.+with_arguments.Goals as goal

pub returns-in_ok-applied-in-Ok-clause-answer : goal.returns-in_ok-applied-in-Ok-clause-answer
returns-in_ok-applied-in-Ok-clause-answer g t c =
    argument_made c.args.env.now c.args.ctx.now c.args.values.now c.args.count c.args.ty.now c.in-Prod.name c.in-Prod.domain c.in-Prod.codomain c.args.function
    c.in-Ok.x _ c.args.fuel.now c.argument.new.fuel c.with_arguments.result (left c.with_arguments.new.fuel) (sym c.node.ensures.top ∙ ap tree_of c.in-Prod.is)
    (search rules) c.in-Ok.ensures.answer c.in-Ok.ensures.kept (search rules)

pub returns-in-Err-clause-answer : goal.returns-in-Err-clause-answer
returns-in-Err-clause-answer g t c =
    argument_stopped c.args.env.now c.args.ctx.now c.args.values.now c.args.count c.args.ty.now c.in-Prod.name c.in-Prod.domain c.in-Prod.codomain c.args.function
    _ c.args.fuel.now c.in-Err.stop (left c.argument.new.fuel) (sym c.node.ensures.top ∙ ap tree_of c.in-Prod.is) (search rules) c.in-Err.ensures.answer

pub with_arguments-requires : goal.with_arguments-requires
with_arguments-requires g t c = search (rules, next_codomain)

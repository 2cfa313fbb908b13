use Rattle.std.proofs.Common.{ap, arith, rules}
use Rattle.coq_syntax.specs.Nodes.{tree_of, annotation_of}
use Rattle.coq_syntax.specs.Trees.{size_of}
use Rattle.coq_syntax.proofs.Counted.{argument_smaller, group_smaller}
use Rattle.cic_rules.specs.Fuel.{left}
use Rattle.elaborator.proofs.CycleLaws.{next_argument, stopped_argument, last_argument, next_group, stopped_group, last_group, let_met, inside_met}
use Rattle.elaborator.proofs.elaborate.+elab.Goals as goal

pub elab_arguments-elab_in-requires : goal.elab_arguments-elab_in-requires
elab_arguments-elab_in-requires g t c κs within =
    let less = argument_smaller c.args.arguments.now c.loop-argument.argument-index c.argument-item.result c.loop-argument-test.true c.argument-item.is in
    let same = ap size_of c.argument_term.ensures in
    (omega (arith, less, same, c.decreases), (search rules))

pub elab_arguments-returns-in-Err-clause-answer : goal.elab_arguments-returns-in-Err-clause-answer
elab_arguments-returns-in-Err-clause-answer g t c =
    stopped_argument c.args.env.now c.args.scope.now c.args.arguments.now c.loop-argument.argument-index c.loop-argument.values c.args.fuel.now
    c.loop-argument.fuel c.elab_in.new.fuel c.argument-item.result c.argument_term.result.now c.in-Err.stop c.loop-argument-test.true c.argument-item.is
    c.argument_term.ensures c.loop-argument.invariant c.in-Err.ensures.answer

pub elab_arguments-loop-argument-preserved : goal.elab_arguments-loop-argument-preserved
elab_arguments-loop-argument-preserved g t c =
    next_argument c.args.env.now c.args.scope.now c.args.arguments.now c.loop-argument.argument-index c.loop-argument.values c.push.new.self c.args.fuel.now
    c.loop-argument.fuel c.elab_in.new.fuel c.argument-item.result c.argument_term.result.now c.in-Ok.value c.loop-argument-test.true c.argument-item.is
    c.argument_term.ensures c.loop-argument.invariant c.in-Ok.ensures.answer c.in-Ok.ensures.kept (search rules)

pub elab_arguments-returns-clause-answer : goal.elab_arguments-returns-clause-answer
elab_arguments-returns-clause-answer g t c =
    last_argument c.args.env.now c.args.scope.now c.args.arguments.now c.loop-argument.argument-index c.loop-argument.values c.args.fuel.now
    c.loop-argument.fuel (search rules) c.loop-argument.invariant

pub elab_in-returns-clause-inside : goal.elab_in-returns-clause-inside
elab_in-returns-clause-inside g t c =
    inside_met c.args.env.now c.args.scope.now c.args.s.now c.args.fuel.now c.row.result (left c.row.new.fuel) c.len-globals.ensures.environment
    c.requires.judged (search rules)

pub groups_in-bound-requires : goal.groups_in-bound-requires
groups_in-bound-requires g t c κs within =
    let less = group_smaller c.args.groups.now c.loop-group.group-index c.group-item.result c.loop-group-test.true c.group-item.is in
    let same = ap size_of c.deref.ensures in
    (omega (arith, less, same, c.decreases), (search rules))

pub groups_in-returns-in-Err-clause-answer : goal.groups_in-returns-in-Err-clause-answer
groups_in-returns-in-Err-clause-answer g t c =
    stopped_group c.args.env.now c.args.scope.now c.args.groups.now c.loop-group.group-index c.loop-group.inner c.args.fuel.now c.loop-group.fuel
    c.bound.new.fuel c.group-item.result _ c.deref.result.now c.in-Err.stop c.loop-group-test.true c.group-item.is c.as_slice.ensures.value c.deref.ensures
    c.loop-group.invariant c.in-Err.ensures.answer

pub groups_in-loop-group-preserved : goal.groups_in-loop-group-preserved
groups_in-loop-group-preserved g t c =
    next_group c.args.env.now c.args.scope.now c.args.groups.now c.loop-group.group-index c.loop-group.inner c.in-Ok.next c.args.fuel.now c.loop-group.fuel
    c.bound.new.fuel c.group-item.result _ c.deref.result.now c.loop-group-test.true c.group-item.is c.as_slice.ensures.value c.deref.ensures
    c.loop-group.invariant c.in-Ok.ensures.answer c.in-Ok.ensures.kept c.in-Ok.ensures.judged

pub groups_in-returns-clause-answer : goal.groups_in-returns-clause-answer
groups_in-returns-clause-answer g t c =
    last_group c.args.env.now c.args.scope.now c.args.groups.now c.loop-group.group-index c.loop-group.inner c.args.fuel.now c.loop-group.fuel (search rules)
    c.loop-group.invariant

pub row-returns-in-Let-clause-answer : goal.row-returns-in-Let-clause-answer
row-returns-in-Let-clause-answer g t c =
    let_met c.args.env.now c.args.scope.now c.in-Let.keyword c.in-Let.name (annotation_of c.in-Let.annotation) c.in-Let.assign c.deref-in-Let.result.now c.in-Let.value.value c.in-Let.joint c.deref-in-Let-2.result.now c.in-Let.body.value
    c.args.fuel.now (tree_of c.args.node.now) c.let_row.result (left c.let_row.new.fuel) (ap tree_of c.in-Let.is) c.deref-in-Let.ensures c.deref-in-Let-2.ensures c.let_row.ensures.answer

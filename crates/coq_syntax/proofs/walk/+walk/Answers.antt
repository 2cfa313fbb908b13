use Rattle.std.proofs.Common.{◌<◌, sym, ap, subst, arith}
use Rattle.coq_syntax.specs.Trees.{size_of}
use Rattle.coq_syntax.proofs.Counted.{argument_smaller, group_smaller}
use Rattle.coq_syntax.proofs.walk.+walk.Goals as goal

pub arguments_count-node_count-requires : goal.arguments_count-node_count-requires
arguments_count-node_count-requires t c =
    let less = argument_smaller c.args.arguments.now c.loop-argument.argument-index c.argument-item.result c.loop-argument-test.true c.argument-item.is in
    let same = ap size_of c.argument_term.ensures in
    (omega (arith, less, same, c.decreases), tt)

pub groups_count-node_count-requires : goal.groups_count-node_count-requires
groups_count-node_count-requires t c =
    let less = group_smaller c.args.groups.now c.loop-group.group-index c.group-item.result c.loop-group-test.true c.group-item.is in
    let same = ap size_of c.deref.ensures in
    (omega (arith, less, same, c.decreases), tt)

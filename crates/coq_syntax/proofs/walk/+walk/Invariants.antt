use Rattle.std.proofs.Common.{◌≡◌, ◌+◌, ◌≤◌, ◌-◌, ◌^◌, drop}
use Rattle.coq_syntax.specs.Nodes.{binders_of, groups_of, annotation_of, arguments_of}
use Rattle.coq_syntax.specs.Trees.{size_of, size_of_binders, size_of_groups, size_of_annotation, size_of_arguments}
use Rattle.coq_syntax.specs.Counts.{capped}
use Rattle.coq_syntax.proofs.walk.+walk.Given as goal

abbrev pub decreases-groups_count : goal.decreases-groups_count
decreases-groups_count l = size_of_groups (groups_of l.groups.now)

abbrev pub decreases-binders_count : goal.decreases-binders_count
decreases-binders_count l = size_of_binders (binders_of l.binders.now)

abbrev pub decreases-annotation_count : goal.decreases-annotation_count
decreases-annotation_count l = size_of_annotation (annotation_of l.annotation.now)

abbrev pub decreases-arguments_count : goal.decreases-arguments_count
decreases-arguments_count l = size_of_arguments (arguments_of l.arguments.now)

abbrev pub decreases-node_count : goal.decreases-node_count
decreases-node_count l = size_of l.term.now

abbrev pub invariant-arguments_count-loop-argument : goal.invariant-arguments_count-loop-argument
invariant-arguments_count-loop-argument l = record {
  small : l.count ≤ 2 ^ 64 - 1;
  whole : capped (l.count + size_of_arguments (arguments_of (drop l.argument-index l.arguments))) ≡ capped (size_of_arguments (arguments_of l.arguments));
}

abbrev pub invariant-groups_count-loop-group : goal.invariant-groups_count-loop-group
invariant-groups_count-loop-group l = record {
  small : l.count ≤ 2 ^ 64 - 1;
  whole : capped (l.count + size_of_groups (groups_of (drop l.group-index l.groups))) ≡ capped (size_of_groups (groups_of l.groups));
}

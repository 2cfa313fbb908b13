-- Nodes that are left to elaborate, and a rank among the functions that elaborate as many.
use Rattle.std.proofs.Common.{◌+◌, ◌*◌}
use Rattle.coq_syntax.specs.Nodes.{tree_of, binders_of, groups_of, annotation_of, arguments_of}
use Rattle.coq_syntax.specs.Trees.{size_of, size_of_binders, size_of_groups, size_of_annotation, size_of_arguments}
use Rattle.elaborator.proofs.CycleLaws.{IsUnderWay, IsOpening}
use Rattle.elaborator.proofs.elaborate.+elab.Given as goal

abbrev pub decreases-elab_in : goal.decreases-elab_in
decreases-elab_in g l = 8 * size_of l.s.now + 1

abbrev pub decreases-row : goal.decreases-row
decreases-row g l = 8 * size_of (tree_of l.node.now)

abbrev pub decreases-arrow : goal.decreases-arrow
decreases-arrow g l = 8 * (size_of l.a.now + size_of l.b.now) + 7

abbrev pub decreases-binding : goal.decreases-binding
decreases-binding g l = 8 * (size_of_binders (binders_of l.binders.now) + size_of l.body.now) + 7

abbrev pub decreases-let_row : goal.decreases-let_row
decreases-let_row g l = 8 * (size_of_annotation (annotation_of l.annotation.now) + size_of l.value.now + size_of l.body.now) + 7

abbrev pub decreases-typed_let : goal.decreases-typed_let
decreases-typed_let g l = 8 * (size_of l.ty.now + size_of l.value.now + size_of l.body.now) + 6

abbrev pub decreases-untyped_let : goal.decreases-untyped_let
decreases-untyped_let g l = 8 * (size_of l.value.now + size_of l.body.now) + 6

abbrev pub decreases-defined : goal.decreases-defined
decreases-defined g l = 8 * size_of l.body.now + 5

abbrev pub decreases-operation : goal.decreases-operation
decreases-operation g l = 8 * (size_of l.a.now + size_of l.b.now) + 7

abbrev pub decreases-negation : goal.decreases-negation
decreases-negation g l = 8 * size_of l.a.now + 7

abbrev pub decreases-equation : goal.decreases-equation
decreases-equation g l = 8 * (size_of l.a.now + size_of l.b.now) + 7

abbrev pub decreases-application_row : goal.decreases-application_row
decreases-application_row g l = 8 * (size_of l.head.now + size_of_arguments (arguments_of l.arguments.now)) + 7

abbrev pub decreases-application : goal.decreases-application
decreases-application g l = 8 * (size_of l.head.now + size_of_arguments (arguments_of l.arguments.now)) + 6

abbrev pub decreases-named_application : goal.decreases-named_application
decreases-named_application g l = 8 * (size_of l.head.now + size_of_arguments (arguments_of l.arguments.now)) + 6

abbrev pub decreases-elab_arguments : goal.decreases-elab_arguments
decreases-elab_arguments g l = 8 * size_of_arguments (arguments_of l.arguments.now) + 4

abbrev pub decreases-open_binders : goal.decreases-open_binders
decreases-open_binders g l = 8 * size_of_binders (binders_of l.binders.now) + 2

abbrev pub decreases-bound : goal.decreases-bound
decreases-bound g l = 8 * size_of l.ty.now + 2

abbrev pub decreases-groups_in : goal.decreases-groups_in
decreases-groups_in g l = 8 * size_of_groups (groups_of l.groups.now) + 4

abbrev pub invariant-elab_arguments-loop-argument : goal.invariant-elab_arguments-loop-argument
invariant-elab_arguments-loop-argument g l = IsUnderWay l.env l.scope l.arguments l.argument-index l.values l.fn.fuel l.fuel

abbrev pub invariant-groups_in-loop-group : goal.invariant-groups_in-loop-group
invariant-groups_in-loop-group g l = IsOpening l.env l.scope l.groups l.group-index l.inner l.fn.fuel l.fuel

-- Each part of a node has fewer nodes than the node.
use Rattle.std.specs.Prelude.{◌≤◌, max, List, [], ◌∷◌}
use Rattle.std.proofs.Common.{arith}
use denote.Param.Weighed.{most}
use Rattle.coq_syntax.specs.declared.tree.Node.{Node}
use Rattle.coq_syntax.specs.declared.tree.Node.TheVariants.{Forall, Fun, Let, Arrow, Or, And, Not, Equal, Apply, Name, PropSort, SetSort, TypeSort, TypeAt, Numeral, Parenthesized}
use Rattle.coq_syntax.specs.declared.tree.Binders.{Binders}
use Rattle.coq_syntax.specs.declared.tree.Binders.TheVariants.{Names, Groups}
use Rattle.coq_syntax.specs.declared.tree.Group.{Group}
use Rattle.coq_syntax.specs.declared.tree.Annotation.{Annotation}
use Rattle.coq_syntax.specs.declared.tree.Annotation.TheVariants.{Untyped, Typed}
use Rattle.coq_syntax.specs.declared.tree.Argument.{Argument}
use Rattle.coq_syntax.specs.declared.tree.Argument.TheVariants.{Positional, Given}
use Rattle.coq_syntax.specs.declared.tree.SurfaceTerm.TheDeep.{deep-Node, deep-Binders, deep-Group, deep-Annotation, deep-Argument}
use Rattle.coq_syntax.specs.Trees as tree
use Rattle.coq_syntax.specs.Trees.{size_of, size_of_binders, size_of_groups, size_of_annotation, size_of_arguments}
use Rattle.coq_syntax.specs.Nodes.{groups_of, binders_of, annotation_of, with_argument, arguments_of, tree_of}

groups_within : (gs : List Group) → most deep-Group gs ≤ size_of_groups (groups_of gs)
groups_within [] = omega arith
groups_within (g ∷ gs) = omega (arith, groups_within gs)

binders_within : (bs : Binders) → deep-Binders bs ≤ size_of_binders (binders_of bs)
binders_within (Names names colon ty) = omega arith
binders_within (Groups groups) = omega (arith, groups_within groups.items)

annotation_within : (a : Annotation) → deep-Annotation a ≤ size_of_annotation (annotation_of a)
annotation_within Untyped = omega arith
annotation_within (Typed colon ty) = omega arith

argument_within : (a : Argument) (after : tree.Arguments) → max (deep-Argument a) (size_of_arguments after) ≤ size_of_arguments (with_argument a after)
argument_within (Positional t) after = omega arith
argument_within (Given opening name assign value closing) after = omega arith

arguments_within : (args : List Argument) → most deep-Argument args ≤ size_of_arguments (arguments_of args)
arguments_within [] = omega arith
arguments_within (a ∷ args) = omega (arith, arguments_within args, argument_within a (arguments_of args))

pub deep_within : (n : Node) → max (deep-Node n) 0 ≤ size_of (tree_of n)
deep_within (Forall keyword binders comma body) = omega (arith, binders_within binders)
deep_within (Fun keyword binders arrow body) = omega (arith, binders_within binders)
deep_within (Let keyword name annotation assign value joint body) = omega (arith, annotation_within annotation)
deep_within (Arrow left sign right) = omega arith
deep_within (Or left sign right) = omega arith
deep_within (And left sign right) = omega arith
deep_within (Not sign operand) = omega arith
deep_within (Equal left sign right) = omega arith
deep_within (Apply head arguments) = omega (arith, arguments_within arguments.items)
deep_within (Name word) = omega arith
deep_within (PropSort place) = omega arith
deep_within (SetSort place) = omega arith
deep_within (TypeSort place) = omega arith
deep_within (TypeAt keyword at opening level closing) = omega arith
deep_within (Numeral word) = omega arith
deep_within (Parenthesized opening inner closing) = omega arith

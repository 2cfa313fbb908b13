-- The term that a node is the top of.
use Rattle.std.specs.Prelude.{List, [], ◌∷◌}
use Rattle.coq_syntax.specs.declared.tree.Node.{Node}
use Rattle.coq_syntax.specs.declared.tree.Node.TheVariants.{Forall, Fun, Let, Arrow, Or, And, Not, Equal, Apply, Name, PropSort, SetSort, TypeSort, TypeAt, Numeral, Parenthesized}
use Rattle.coq_syntax.specs.declared.tree.Binders.{Binders}
use Rattle.coq_syntax.specs.declared.tree.Binders.TheVariants.{Names, Groups}
use Rattle.coq_syntax.specs.declared.tree.Group.{Group}
use Rattle.coq_syntax.specs.declared.tree.Annotation.{Annotation}
use Rattle.coq_syntax.specs.declared.tree.Annotation.TheVariants.{Untyped, Typed}
use Rattle.coq_syntax.specs.declared.tree.Argument.{Argument}
use Rattle.coq_syntax.specs.declared.tree.Argument.TheVariants.{Positional, Given}
use Rattle.coq_syntax.specs.Trees.{Term}
use Rattle.coq_syntax.specs.Trees as tree

abbrev pub groups_of : List Group → tree.GroupList
groups_of [] = tree.NoGroup
groups_of (g ∷ gs) = tree.Group g.opening g.names.items g.colon g.ty.value g.closing (groups_of gs)

abbrev pub binders_of : Binders → tree.Binders
binders_of (Names names colon ty) = tree.Names names.items colon ty.value
binders_of (Groups groups) = tree.Groups (groups_of groups.items)

abbrev pub annotation_of : Annotation → tree.Annotation
annotation_of Untyped = tree.Untyped
annotation_of (Typed colon ty) = tree.Typed colon ty.value

-- one more argument, before these
abbrev pub with_argument : Argument → tree.Arguments → tree.Arguments
with_argument (Positional t) after = tree.Positional t.value after
with_argument (Given opening name assign value closing) after = tree.Given opening name assign value.value closing after

abbrev pub arguments_of : List Argument → tree.Arguments
arguments_of [] = tree.NoArgument
arguments_of (argument ∷ after) = with_argument argument (arguments_of after)

abbrev pub tree_of : Node → Term
tree_of (Forall keyword binders comma body) = tree.Forall keyword (binders_of binders) comma body.value
tree_of (Fun keyword binders arrow body) = tree.Fun keyword (binders_of binders) arrow body.value
tree_of (Let keyword name annotation assign value joint body) = tree.Let keyword name (annotation_of annotation) assign value.value joint body.value
tree_of (Arrow left sign right) = tree.Arrow left.value sign right.value
tree_of (Or left sign right) = tree.Or left.value sign right.value
tree_of (And left sign right) = tree.And left.value sign right.value
tree_of (Not sign operand) = tree.Not sign operand.value
tree_of (Equal left sign right) = tree.Equal left.value sign right.value
tree_of (Apply head arguments) = tree.Apply head.value (arguments_of arguments.items)
tree_of (Name word) = tree.Name word
tree_of (PropSort place) = tree.PropSort place
tree_of (SetSort place) = tree.SetSort place
tree_of (TypeSort place) = tree.TypeSort place
tree_of (TypeAt keyword at opening level closing) = tree.TypeAt keyword at opening level closing
tree_of (Numeral word) = tree.Numeral word
tree_of (Parenthesized opening inner closing) = tree.Parenthesized opening inner.value closing

use Rattle.std.specs.Prelude.{◌≡◌}
use Rattle.core_term.specs.Sorts.{IsSort}
use Rattle.core_term.specs.Tree.{Tree, Var, Sorted, Constant, Prod, Lam, LetIn, App, size_of, depth_of, free_bound, IsTerm}
use Rattle.core_term.specs.declared.terms.Node.{Node}
use Rattle.core_term.specs.declared.terms.Node.TheVariants as node
use Rattle.core_term.specs.declared.terms.Cell.{Cell}
use Rattle.core_term.specs.declared.measures.Measure.{Measure}

-- the term that a node is the top of
abbrev pub tree_of : Node → Tree
tree_of (node.Var i) = Var i
tree_of (node.Sorted s) = Sorted s
tree_of (node.Constant c) = Constant c
tree_of (node.Prod n a b) = Prod n a b
tree_of (node.Lam n a b) = Lam n a b
tree_of (node.LetIn n a t b) = LetIn n a t b
tree_of (node.App f a) = App f a

-- a node that is a sort has a level in its range
abbrev pub HasSort : Node → Type 0
HasSort (node.Sorted s) = IsSort s
HasSort _ = Unit {0}

-- a term's size, its depth and the bound of its free variables
pub record Measures (m : Measure) (t : Tree) : Type 0 where
  pub size_is : m.size ≡ size_of t
  pub depth_is : m.depth ≡ depth_of t
  pub bound_is : m.bound ≡ free_bound t

-- a cell keeps the measure of its term
pub record IsKept (c : Cell) : Type 0 where
  pub measured : Measures c.measure (tree_of c.node)
  pub term : IsTerm (tree_of c.node)

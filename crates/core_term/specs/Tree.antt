use Rattle.std.specs.Prelude.{ℕ, ◌+◌, ◌-◌, ◌^◌, ◌≤◌, ◌<◌, max, List, [], Bool, true, false, ◌&&◌, ◌==◌, nat_le}
use Rattle.core_term.specs.declared.sorts.Sort.{Sort}
use Rattle.core_term.specs.declared.sorts.Sort.TheVariants.{PropSort, SetSort, TypeSort}
use Rattle.core_term.specs.Sorts.{IsSort}

-- a term of the calculus, with de Bruijn indices; a name is the bytes of its text
pub data Tree : Type 0 where
  Var : ℕ → Tree
  Sorted : Sort → Tree
  Constant : ℕ → Tree
  Prod : List ℕ → Tree → Tree → Tree
  Lam : List ℕ → Tree → Tree → Tree
  LetIn : List ℕ → Tree → Tree → Tree → Tree
  App : Tree → Tree → Tree

-- how many nodes a term has
abbrev pub size_of : Tree → ℕ
size_of (Var _) = 1
size_of (Sorted _) = 1
size_of (Constant _) = 1
size_of (Prod _ a b) = 1 + size_of a + size_of b
size_of (Lam _ a b) = 1 + size_of a + size_of b
size_of (LetIn _ a t b) = 1 + size_of a + size_of t + size_of b
size_of (App f a) = 1 + size_of f + size_of a

-- how many nodes stand on its longest way down
abbrev pub depth_of : Tree → ℕ
depth_of (Var _) = 1
depth_of (Sorted _) = 1
depth_of (Constant _) = 1
depth_of (Prod _ a b) = 1 + max (depth_of a) (depth_of b)
depth_of (Lam _ a b) = 1 + max (depth_of a) (depth_of b)
depth_of (LetIn _ a t b) = 1 + max (max (depth_of a) (depth_of t)) (depth_of b)
depth_of (App f a) = 1 + max (depth_of f) (depth_of a)

-- the least number above each free variable
abbrev pub free_bound : Tree → ℕ
free_bound (Var i) = i + 1
free_bound (Sorted _) = 0
free_bound (Constant _) = 0
free_bound (Prod _ a b) = max (free_bound a) (free_bound b - 1)
free_bound (Lam _ a b) = max (free_bound a) (free_bound b - 1)
free_bound (LetIn _ a t b) = max (max (free_bound a) (free_bound t)) (free_bound b - 1)
free_bound (App f a) = max (free_bound f) (free_bound a)

-- no index passes 4294967295
abbrev pub IsNumbered : Tree → Type 0
IsNumbered (Var i) = i < 2 ^ 32
IsNumbered (Sorted _) = Unit {0}
IsNumbered (Constant _) = Unit {0}
IsNumbered (Prod _ a b) = IsNumbered a × IsNumbered b
IsNumbered (Lam _ a b) = IsNumbered a × IsNumbered b
IsNumbered (LetIn _ a t b) = IsNumbered a × IsNumbered t × IsNumbered b
IsNumbered (App f a) = IsNumbered f × IsNumbered a

-- each level of Type is in its range
abbrev pub IsLevelled : Tree → Type 0
IsLevelled (Var _) = Unit {0}
IsLevelled (Sorted s) = IsSort s
IsLevelled (Constant _) = Unit {0}
IsLevelled (Prod _ a b) = IsLevelled a × IsLevelled b
IsLevelled (Lam _ a b) = IsLevelled a × IsLevelled b
IsLevelled (LetIn _ a t b) = IsLevelled a × IsLevelled t × IsLevelled b
IsLevelled (App f a) = IsLevelled f × IsLevelled a

-- neither too many nodes nor too deep
abbrev pub is_small : Tree → Bool
is_small t = nat_le (size_of t) (2 ^ 20) && nat_le (depth_of t) 1000

-- what is true of each term that the program holds
pub record IsTerm (t : Tree) : Type 0 where
  pub small : size_of t ≤ 2 ^ 20
  pub shallow : depth_of t ≤ 1000
  pub numbered : IsNumbered t
  pub levelled : IsLevelled t

-- one sort
abbrev pub same_sort : Sort → Sort → Bool
same_sort PropSort PropSort = true
same_sort SetSort SetSort = true
same_sort (TypeSort i) (TypeSort j) = i == j
same_sort _ _ = false

-- one term, names of binders aside
abbrev pub same_tree : Tree → Tree → Bool
same_tree (Var i) (Var j) = i == j
same_tree (Sorted s) (Sorted r) = same_sort s r
same_tree (Constant c) (Constant d) = c == d
same_tree (Prod _ a b) (Prod _ c d) = same_tree a c && same_tree b d
same_tree (Lam _ a b) (Lam _ c d) = same_tree a c && same_tree b d
same_tree (LetIn _ a t b) (LetIn _ c u d) = same_tree a c && same_tree t u && same_tree b d
same_tree (App f a) (App g b) = same_tree f g && same_tree a b
same_tree _ _ = false

-- the term without the names of its binders
abbrev pub erase_names : Tree → Tree
erase_names (Var i) = Var i
erase_names (Sorted s) = Sorted s
erase_names (Constant c) = Constant c
erase_names (Prod _ a b) = Prod [] (erase_names a) (erase_names b)
erase_names (Lam _ a b) = Lam [] (erase_names a) (erase_names b)
erase_names (LetIn _ a t b) = LetIn [] (erase_names a) (erase_names t) (erase_names b)
erase_names (App f a) = App (erase_names f) (erase_names a)

-- Terms as heads with arguments, and as products with an end.
use Rattle.std.specs.Prelude.{ℕ, zero, suc, ◌+◌, ◌^◌, max, nat_le, List, [], ◌∷◌, ◌++◌, length, Bool, true, false, ◌&&◌}
use Rattle.core_term.specs.Tree.{Tree, Var, Prod, App, size_of, depth_of, same_tree}
use Rattle.core_term.specs.Places.{lift_of}

-- what a term applies, and to which arguments, the first first
abbrev pub head_of : Tree → Tree
head_of (App f a) = head_of f
head_of t = t

abbrev pub arguments_of : Tree → List Tree
arguments_of (App f a) = arguments_of f ++ (a ∷ [])
arguments_of t = []

-- a term applied to arguments
abbrev pub apply_all : Tree → List Tree → Tree
apply_all f [] = f
apply_all f (a ∷ more) = apply_all (App f a) more

-- a head applies nothing
abbrev pub IsHead : Tree → Type 0
IsHead (App f a) = ⊥
IsHead _ = Unit {0}

-- how many products stand in front of a term, and what stands behind them
abbrev pub count_products : Tree → ℕ
count_products (Prod n a b) = suc (count_products b)
count_products t = 0

abbrev pub end_of_products : Tree → Tree
end_of_products (Prod n a b) = end_of_products b
end_of_products t = t

-- one list of terms, names aside
abbrev pub same_trees : List Tree → List Tree → Bool
same_trees [] [] = true
same_trees (t ∷ ts) (u ∷ us) = same_tree t u && same_trees ts us
same_trees _ _ = false

-- the term one binder deeper
abbrev pub shift : Tree → Tree
shift t = lift_of t 1 0

abbrev pub shift_all : List Tree → List Tree
shift_all [] = []
shift_all (t ∷ ts) = shift t ∷ shift_all ts

-- a function one binder deeper, applied to the variable of that binder
abbrev pub eta_body : Tree → Tree
eta_body f = App (shift f) (Var 0)

-- the variables of a context of n hypotheses as terms, the oldest first
abbrev pub variables_of : ℕ → List Tree
variables_of zero = []
variables_of (suc n) = Var n ∷ variables_of n

-- how many nodes arguments add to what they are applied to
abbrev pub arguments_size : List Tree → ℕ
arguments_size [] = 0
arguments_size (a ∷ more) = 1 + size_of a + arguments_size more

-- how deep the arguments stand in the whole, whatever they are applied to
abbrev pub arguments_depth : List Tree → ℕ
arguments_depth [] = 0
arguments_depth (a ∷ more) = max (arguments_depth more) (depth_of a + (1 + length more))

-- arguments that no limit forbids: with more, each term that is applied to them is too large
abbrev pub are_small : List Tree → Bool
are_small args = nat_le (arguments_size args) (2 ^ 20) && nat_le (arguments_depth args) 1000

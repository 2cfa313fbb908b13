use Rattle.std.specs.Prelude.{◌≡◌, ℕ, zero, suc, List, [], ◌∷◌, refl}
use Rattle.std.proofs.Common.{◌∙◌, ap}
use Rattle.std.specs.Coded.{Coded, code_by, coded×, coded_ℕ, coded_list}
use Rattle.core_term.specs.declared.sorts.Sort.{Sort}
use Rattle.core_term.specs.declared.sorts.Sort.TheVariants.{PropSort, SetSort, TypeSort}
use Rattle.core_term.specs.Tree.{Tree, Var, Sorted, Constant, Prod, Lam, LetIn, App}

-- a node without its parts: its kind, its number and its name
abbrev pub NodeTag : Type 0
NodeTag = ℕ × (ℕ × List ℕ)

-- a sort as a number
abbrev pub sort_number : Sort → ℕ
sort_number PropSort = zero
sort_number SetSort = suc zero
sort_number (TypeSort i) = suc (suc i)

-- the sort of a number
abbrev pub numbered_sort : ℕ → Sort
numbered_sort zero = PropSort
numbered_sort (suc zero) = SetSort
numbered_sort (suc (suc i)) = TypeSort i

-- the number gives the sort back
pub numbered_sort-sort_number : (s : Sort) → numbered_sort (sort_number s) ≡ s
numbered_sort-sort_number PropSort = refl
numbered_sort-sort_number SetSort = refl
numbered_sort-sort_number (TypeSort i) = refl

-- the nodes of a term, each after its parts, and then the rest
abbrev pub tags : Tree → List NodeTag → List NodeTag
tags (Var i) rest = (0, (i, [])) ∷ rest
tags (Sorted s) rest = (1, (sort_number s, [])) ∷ rest
tags (Constant c) rest = (2, (c, [])) ∷ rest
tags (Prod n a b) rest = tags a (tags b ((3, (0, n)) ∷ rest))
tags (Lam n a b) rest = tags a (tags b ((4, (0, n)) ∷ rest))
tags (LetIn n a t b) rest = tags a (tags t (tags b ((5, (0, n)) ∷ rest)))
tags (App f a) rest = tags f (tags a ((6, (0, [])) ∷ rest))

-- the stack of terms after a node: a leaf goes on it, an inner node takes its parts from it
abbrev pub built : ℕ → ℕ → List ℕ → List Tree → List Tree
built zero i n stack = Var i ∷ stack
built (suc zero) i n stack = Sorted (numbered_sort i) ∷ stack
built (suc (suc zero)) i n stack = Constant i ∷ stack
built (suc (suc (suc zero))) i n (b ∷ a ∷ stack) = Prod n a b ∷ stack
built (suc (suc (suc (suc zero)))) i n (b ∷ a ∷ stack) = Lam n a b ∷ stack
built (suc (suc (suc (suc (suc zero))))) i n (b ∷ t ∷ a ∷ stack) = LetIn n a t b ∷ stack
built (suc (suc (suc (suc (suc (suc zero)))))) i n (a ∷ f ∷ stack) = App f a ∷ stack
built _ i n stack = stack

-- the term that stands on the stack after all nodes
abbrev pub read : List NodeTag → List Tree → Tree
read [] [] = Var 0
read [] (t ∷ _) = t
read (m ∷ ms) stack = read ms (built m.0 m.1.0 m.1.1 stack)

-- reading the nodes of a term puts it on the stack
pub read-tags : (t : Tree) (rest : List NodeTag) (stack : List Tree) → read (tags t rest) stack ≡ read rest (t ∷ stack)
read-tags (Var i) rest stack = refl
read-tags (Sorted s) rest stack = ap (λ r. read rest (Sorted r ∷ stack)) (numbered_sort-sort_number s)
read-tags (Constant c) rest stack = refl
read-tags (Prod n a b) rest stack = read-tags a _ stack ∙ read-tags b _ (a ∷ stack)
read-tags (Lam n a b) rest stack = read-tags a _ stack ∙ read-tags b _ (a ∷ stack)
read-tags (LetIn n a t b) rest stack =
    read-tags a _ stack ∙ read-tags t _ (a ∷ stack) ∙ read-tags b _ (t ∷ a ∷ stack)
read-tags (App f a) rest stack = read-tags f _ stack ∙ read-tags a _ (f ∷ stack)

-- a term is stored as its nodes
abbrev pub tree_code : Coded Tree
tree_code =
    code_by (List NodeTag) (coded_list (coded× coded_ℕ (coded× coded_ℕ (coded_list coded_ℕ)))) (λ t. tags t []) (λ ms. read ms []) (λ t. read-tags t [] [])

-- A new variable in place of a subterm.
use Rattle.std.specs.Prelude.{ℕ, ◌+◌, if◌then◌else◌}
use Rattle.core_term.specs.Tree.{Tree, Var, Sorted, Constant, Prod, Lam, LetIn, App, same_tree}
use Rattle.core_term.specs.Places.{lift_of}

-- under so many binders a term with a new variable, the newest outside of them, in place of each subterm that is u, names aside; u stands
-- outside of the binders too
abbrev pub abstracted : Tree → Tree → ℕ → Tree
abstracted u (Var i) binders = if same_tree (Var i) (lift_of u binders 0) then Var binders else lift_of (Var i) 1 binders
abstracted u (Sorted s) binders = if same_tree (Sorted s) (lift_of u binders 0) then Var binders else Sorted s
abstracted u (Constant c) binders = if same_tree (Constant c) (lift_of u binders 0) then Var binders else Constant c
abstracted u (Prod n a b) binders =
    if same_tree (Prod n a b) (lift_of u binders 0) then Var binders else Prod n (abstracted u a binders) (abstracted u b (binders + 1))
abstracted u (Lam n a b) binders =
    if same_tree (Lam n a b) (lift_of u binders 0) then Var binders else Lam n (abstracted u a binders) (abstracted u b (binders + 1))
abstracted u (LetIn n a t b) binders =
    if same_tree (LetIn n a t b) (lift_of u binders 0) then Var binders
    else LetIn n (abstracted u a binders) (abstracted u t binders) (abstracted u b (binders + 1))
abstracted u (App f a) binders =
    if same_tree (App f a) (lift_of u binders 0) then Var binders else App (abstracted u f binders) (abstracted u a binders)

-- the same of a term that is not u itself
abbrev pub abstracted_parts : Tree → Tree → ℕ → Tree
abstracted_parts u (Var i) binders = lift_of (Var i) 1 binders
abstracted_parts u (Sorted s) binders = Sorted s
abstracted_parts u (Constant c) binders = Constant c
abstracted_parts u (Prod n a b) binders = Prod n (abstracted u a binders) (abstracted u b (binders + 1))
abstracted_parts u (Lam n a b) binders = Lam n (abstracted u a binders) (abstracted u b (binders + 1))
abstracted_parts u (LetIn n a t b) binders = LetIn n (abstracted u a binders) (abstracted u t binders) (abstracted u b (binders + 1))
abstracted_parts u (App f a) binders = App (abstracted u f binders) (abstracted u a binders)

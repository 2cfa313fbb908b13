-- Values for all variables of a context, the newest first, put into terms.
use Rattle.std.specs.Prelude.{ℕ, ◌+◌, ◌-◌, nat_lt, List, [], ◌∷◌, length, Option, Some, None, if◌then◌else◌, slice_get}
use Rattle.core_term.specs.Tree.{Tree, Var, Sorted, Constant, Prod, Lam, LetIn, App}
use Rattle.core_term.specs.Places.{lift_of}
use Rattle.term_spine.specs.Spine.{shift_all}

-- a variable that stands under some binders: its value, or where there is none the variable without those that have one
abbrev pub instantiated_variable : Option Tree → ℕ → ℕ → ℕ → Tree
instantiated_variable None i count binders = Var (i - count)
instantiated_variable (Some v) i count binders = lift_of v binders 0

-- the values put into a term that stands under some more binders
abbrev pub instantiate_under : List Tree → Tree → ℕ → Tree
instantiate_under values (Var i) binders =
    if nat_lt i binders then Var i else instantiated_variable (slice_get values (i - binders)) i (length values) binders
instantiate_under values (Sorted s) binders = Sorted s
instantiate_under values (Constant c) binders = Constant c
instantiate_under values (Prod n a b) binders = Prod n (instantiate_under values a binders) (instantiate_under values b (binders + 1))
instantiate_under values (Lam n a b) binders = Lam n (instantiate_under values a binders) (instantiate_under values b (binders + 1))
instantiate_under values (LetIn n a t b) binders =
    LetIn n (instantiate_under values a binders) (instantiate_under values t binders) (instantiate_under values b (binders + 1))
instantiate_under values (App f a) binders = App (instantiate_under values f binders) (instantiate_under values a binders)

-- the values put into a term of the context
abbrev pub instantiate : List Tree → Tree → Tree
instantiate values t = instantiate_under values t 0

abbrev pub instantiate_all : List Tree → List Tree → List Tree
instantiate_all values [] = []
instantiate_all values (t ∷ ts) = instantiate values t ∷ instantiate_all values ts

-- values for one more variable, each one binder deeper: the new one stands for itself
abbrev pub values_under : List Tree → List Tree
values_under values = Var 0 ∷ shift_all values

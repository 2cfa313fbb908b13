-- Patterns: terms whose newest variables are to be found, and the values that are found for them.
use Rattle.std.specs.Prelude.{ℕ, ◌+◌, ◌-◌, ◌≤◌, [], ◌∷◌, IfSome, nat_lt, List, length, Bool, true, false, ◌||◌, Option, Some, None, if◌then◌else◌, slice_get, replicate}
use Rattle.core_term.specs.Tree.{Tree, Var, Sorted, Constant, Prod, Lam, LetIn, App, depth_of}
use Rattle.core_term.specs.Places.{lift_of}

-- the values of a pattern's variables, the newest first; one that is unset has none
abbrev pub Values : Type 0
Values = List (Option Tree)

-- so many variables, all unset
abbrev pub unset_values : ℕ → Values
unset_values count = replicate count None

-- no value is deeper than a term may be
abbrev pub AreShallow : Values → Type 0
AreShallow [] = Unit {0}
AreShallow (v ∷ values) = IfSome v (λ t. depth_of t ≤ 1000) × AreShallow values

-- what stands at a place of the values: a variable that has none yet, or something else
abbrev pub is_open : Option (Option Tree) → Bool
is_open (Some None) = true
is_open _ = false

abbrev pub value_in : Option (Option Tree) → Option Tree
value_in (Some v) = v
value_in None = None

-- the value of the variable at a place, if it is set
abbrev pub value_at : Values → ℕ → Option Tree
value_at values at = value_in (slice_get values at)

-- a variable that stands under so many binders is unset
abbrev pub is_unset : Values → ℕ → ℕ → Bool
is_unset values i binders = if nat_lt i binders then false else is_open (slice_get values (i - binders))

-- an unset variable stands in a term under so many binders
abbrev pub has_unset : Values → Tree → ℕ → Bool
has_unset values (Var i) binders = is_unset values i binders
has_unset values (Sorted s) binders = false
has_unset values (Constant c) binders = false
has_unset values (Prod n a b) binders = has_unset values a binders || has_unset values b (binders + 1)
has_unset values (Lam n a b) binders = has_unset values a binders || has_unset values b (binders + 1)
has_unset values (LetIn n a t b) binders = has_unset values a binders || (has_unset values t binders || has_unset values b (binders + 1))
has_unset values (App f a) binders = has_unset values f binders || has_unset values a binders

-- a variable under so many binders: its value; else it is one of the context, which comes down
abbrev pub filled_variable : Option Tree → ℕ → ℕ → ℕ → Tree
filled_variable (Some v) i count binders = lift_of v binders 0
filled_variable None i count binders = Var (i - count)

-- a term under so many binders with the values put in; no unset variable stands in it
abbrev pub fill : Values → Tree → ℕ → Tree
fill values (Var i) binders =
    if nat_lt i binders then Var i else filled_variable (value_at values (i - binders)) i (length values) binders
fill values (Sorted s) binders = Sorted s
fill values (Constant c) binders = Constant c
fill values (Prod n a b) binders = Prod n (fill values a binders) (fill values b (binders + 1))
fill values (Lam n a b) binders = Lam n (fill values a binders) (fill values b (binders + 1))
fill values (LetIn n a t b) binders = LetIn n (fill values a binders) (fill values t binders) (fill values b (binders + 1))
fill values (App f a) binders = App (fill values f binders) (fill values a binders)

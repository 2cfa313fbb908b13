-- Terms taken out of binders, the other way round than a lift.
use Rattle.std.specs.Prelude.{ℕ, ◌+◌, ◌-◌, nat_le, nat_lt, Bool, false, ◌&&◌, ◌||◌, Option, Some, None, if◌then◌else◌}
use Rattle.core_term.specs.Tree.{Tree, Var, Sorted, Constant, Prod, Lam, LetIn, App}

-- one of `count` variables stands in a term: the first of them is `from`
abbrev pub has_bound : Tree → ℕ → ℕ → Bool
has_bound (Var i) count from = nat_le from i && nat_lt i (from + count)
has_bound (Sorted s) count from = false
has_bound (Constant c) count from = false
has_bound (Prod n a b) count from = has_bound a count from || has_bound b count (from + 1)
has_bound (Lam n a b) count from = has_bound a count from || has_bound b count (from + 1)
has_bound (LetIn n a t b) count from = has_bound a count from || (has_bound t count from || has_bound b count (from + 1))
has_bound (App f a) count from = has_bound f count from || has_bound a count from

-- the term without the room for `by` variables at `from`, where none of them stands in it
abbrev pub lower_of : Tree → ℕ → ℕ → Tree
lower_of (Var i) by from = Var (if nat_le from i then i - by else i)
lower_of (Sorted s) by from = Sorted s
lower_of (Constant c) by from = Constant c
lower_of (Prod n a b) by from = Prod n (lower_of a by from) (lower_of b by (from + 1))
lower_of (Lam n a b) by from = Lam n (lower_of a by from) (lower_of b by (from + 1))
lower_of (LetIn n a t b) by from = LetIn n (lower_of a by from) (lower_of t by from) (lower_of b by (from + 1))
lower_of (App f a) by from = App (lower_of f by from) (lower_of a by from)

-- a term under so many binders, outside of them; none where a variable that they bind stands in it
abbrev pub without_binders : Tree → ℕ → Option Tree
without_binders t binders = if has_bound t binders 0 then None else Some (lower_of t binders 0)

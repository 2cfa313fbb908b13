use Rattle.std.specs.Prelude.{ℕ, ◌+◌, ◌-◌, nat_le, nat_lt, ◌==◌, if◌then◌else◌}
use Rattle.core_term.specs.Tree.{Tree, Var, Sorted, Constant, Prod, Lam, LetIn, App}

-- the term after room for `by` variables was made at `from`
abbrev pub lift_of : Tree → ℕ → ℕ → Tree
lift_of (Var i) by from = Var (if nat_le from i then i + by else i)
lift_of (Sorted s) by from = Sorted s
lift_of (Constant c) by from = Constant c
lift_of (Prod n a b) by from = Prod n (lift_of a by from) (lift_of b by (from + 1))
lift_of (Lam n a b) by from = Lam n (lift_of a by from) (lift_of b by (from + 1))
lift_of (LetIn n a t b) by from = LetIn n (lift_of a by from) (lift_of t by from) (lift_of b by (from + 1))
lift_of (App f a) by from = App (lift_of f by from) (lift_of a by from)

-- a variable with a value put in for the one at `at`: those above it come down
abbrev pub put_for : ℕ → Tree → ℕ → Tree
put_for i value at = if nat_lt i at then Var i else if nat_lt at i then Var (i - 1) else value

-- the term with a value put in for the variable at `at`, which is gone then
abbrev pub subst_of : Tree → Tree → ℕ → Tree
subst_of (Var i) value at = put_for i value at
subst_of (Sorted s) value at = Sorted s
subst_of (Constant c) value at = Constant c
subst_of (Prod n a b) value at =
    Prod n (subst_of a value at) (subst_of b (lift_of value 1 0) (at + 1))
subst_of (Lam n a b) value at =
    Lam n (subst_of a value at) (subst_of b (lift_of value 1 0) (at + 1))
subst_of (LetIn n a t b) value at =
    LetIn n (subst_of a value at) (subst_of t value at) (subst_of b (lift_of value 1 0) (at + 1))
subst_of (App f a) value at = App (subst_of f value at) (subst_of a value at)

-- how many times the variable at `at` stands in a term
abbrev pub occurrences : Tree → ℕ → ℕ
occurrences (Var i) at = if i == at then 1 else 0
occurrences (Sorted s) at = 0
occurrences (Constant c) at = 0
occurrences (Prod n a b) at = occurrences a at + occurrences b (at + 1)
occurrences (Lam n a b) at = occurrences a at + occurrences b (at + 1)
occurrences (LetIn n a t b) at = occurrences a at + occurrences t at + occurrences b (at + 1)
occurrences (App f a) at = occurrences f at + occurrences a at

-- The sorts of constructors' arguments, from the rows that were found for them.
use Rattle.std.specs.Prelude.{ℕ, List, [], ◌∷◌, Bool, ◌||◌}
use Rattle.core_term.specs.declared.sorts.Sort.{Sort}
use Rattle.core_term.specs.Sorts.{sort_below}
use Rattle.cic_rules.specs.declared.families.RowSorts.{RowSorts}
use Rattle.cic_rules.specs.Infer.{union}
use Rattle.cic_rules.specs.Inductive.{CtorSorts, ctor_sorts, is_prop_sort}

-- an argument of the second sort may stand in a type of the first
abbrev pub fits : Sort → Sort → Bool
fits s r = is_prop_sort s || sort_below r s

abbrev pub row_domains : List RowSorts → List (List Sort)
row_domains [] = []
row_domains (r ∷ rs) = r.domains ∷ row_domains rs

abbrev pub rows_used : List RowSorts → List ℕ
rows_used [] = []
rows_used (r ∷ rs) = union r.used (rows_used rs)

-- what they tell together
abbrev pub told_rows : List RowSorts → CtorSorts
told_rows rs = ctor_sorts (row_domains rs) (rows_used rs)

-- the same of some more behind them
abbrev pub with_rows : List RowSorts → CtorSorts → CtorSorts
with_rows [] q = q
with_rows (r ∷ rs) q = ctor_sorts (r.domains ∷ (with_rows rs q).rows) (union r.used (with_rows rs q).used)

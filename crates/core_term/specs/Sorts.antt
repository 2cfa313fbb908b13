use Rattle.std.specs.Prelude.{◌≤◌, Bool, true, false, nat_le, if◌then◌else◌}
use Rattle.core_term.specs.declared.sorts.Sort.{Sort}
use Rattle.core_term.specs.declared.sorts.Sort.TheVariants.{PropSort, SetSort, TypeSort}

-- the order of sorts: Prop, then Set, then Type by its levels
abbrev pub sort_below : Sort → Sort → Bool
sort_below PropSort _ = true
sort_below SetSort PropSort = false
sort_below SetSort _ = true
sort_below (TypeSort i) (TypeSort j) = nat_le i j
sort_below (TypeSort _) _ = false

-- the greater of two sorts
abbrev pub greater_sort : Sort → Sort → Sort
greater_sort a b = if sort_below a b then b else a

-- the sort of a product from those of its domain and codomain: Prop is impredicative
abbrev pub sort_of_product : Sort → Sort → Sort
sort_of_product _ PropSort = PropSort
sort_of_product a b = greater_sort a b

-- a level of Type is from 1 to 1000
abbrev pub IsSort : Sort → Type 0
IsSort PropSort = Unit {0}
IsSort SetSort = Unit {0}
IsSort (TypeSort i) = (1 ≤ i) × (i ≤ 1000)

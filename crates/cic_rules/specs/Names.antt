-- Where a name stands among names in order.
use Rattle.std.specs.Prelude.{ℕ, zero, suc, List, [], ◌∷◌, Bool, true, false, Option, Some, None, if◌then◌else◌}
use Rattle.std.specs.declared.cmp.Ordering.{Ordering}
use Rattle.std.specs.declared.cmp.Ordering.TheVariants.{Less, Equal, Greater}

abbrev pub is_less : Ordering → Bool
is_less Less = true
is_less Equal = false
is_less Greater = false

module _ {K V : Type 0} (cmp : K → K → Ordering) where
  -- an entry's key is below a key
  abbrev pub stands_before : Option (K × V) → K → Bool
  stands_before None key = false
  stands_before (Some e) key = is_less (cmp e.0 key)

  -- how many entries stand before the first whose key is not below a key
  abbrev pub rank_of : List (K × V) → K → ℕ
  rank_of [] key = zero
  rank_of (e ∷ es) key = if is_less (cmp e.0 key) then suc (rank_of es key) else zero

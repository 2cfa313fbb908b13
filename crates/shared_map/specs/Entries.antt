-- A map as the list of its entries, each a key and its value.
use Rattle.std.specs.Prelude.{◌≡◌, List, [], ◌∷◌, Option, Some, None, if◌then◌else◌}
use Rattle.std.specs.declared.cmp.Ordering.{Ordering}
use Rattle.std.specs.declared.cmp.Ordering.TheVariants.{Less}
use Rattle.std.specs.Ordering.{is_eq, match_ordering}

module _ {K V : Type 0} (cmp : K → K → Ordering) where
  -- the value of the first entry whose key is equal to the key
  abbrev pub look : List (K × V) → K → Option V
  look [] key = None
  look (e ∷ es) key = if is_eq (cmp key e.0) then Some e.1 else look es key

  -- the entries with a new one: in the place of one whose key is equal to its key, or before the first of a greater key
  abbrev pub put : List (K × V) → K × V → List (K × V)
  put [] new = new ∷ []
  put (e ∷ es) new = match_ordering (cmp new.0 e.0) (new ∷ e ∷ es) (new ∷ es) (e ∷ put es new)

  -- the key is below that of each entry
  abbrev pub IsBelowAll : K → List (K × V) → Type 0
  IsBelowAll key [] = Unit {0}
  IsBelowAll key (e ∷ es) = (cmp key e.0 ≡ Less) × IsBelowAll key es

  -- the keys rise, so that each stands once
  abbrev pub IsInOrder : List (K × V) → Type 0
  IsInOrder [] = Unit {0}
  IsInOrder (e ∷ es) = IsBelowAll e.0 es × IsInOrder es

  -- the new entries have the value at the key, and at each other key what the old ones have
  abbrev pub PutsOnly : List (K × V) → List (K × V) → K → V → Type 0
  PutsOnly old new key value = (other : K) → look new other ≡ (if is_eq (cmp other key) then Some value else look old other)

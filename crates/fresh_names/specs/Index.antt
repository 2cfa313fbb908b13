-- Names with their index.
use Rattle.std.specs.Prelude.{◌≡◌, ℕ, List, is_some}
use Rattle.std.specs.Ordering.{nat_cmp}
use Rattle.std.specs.Cmp.Lexicographic.{slice_cmp}
use Rattle.shared_map.specs.Entries.{look}
use Rattle.cic_rules.specs.Eliminators.{has_name}

-- the index has exactly these names
abbrev pub IsIndex : List (List ℕ × Unit {0}) → List (List ℕ) → Type 0
IsIndex index names = (name : List ℕ) → is_some (look (slice_cmp nat_cmp) index name) ≡ has_name names name

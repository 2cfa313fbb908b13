-- The names in scope with their index.
use Rattle.std.specs.Prelude.{◌≡◌, ◌<◌, ℕ, List, Some, true, is_some}
use Rattle.std.specs.Ordering.{nat_cmp}
use Rattle.std.specs.Cmp.Lexicographic.{slice_cmp}
use Rattle.shared_map.specs.Entries.{look}
use Rattle.term_print.specs.Freshness.{has_name, candidate}

-- the index has exactly these names
abbrev pub IsIndex : List (List ℕ × Unit {0}) → List (List ℕ) → Type 0
IsIndex index names = (name : List ℕ) → is_some (look (slice_cmp nat_cmp) index name) ≡ has_name names name

-- so many of the stem and the stem with a number behind it are taken
abbrev pub AreTaken : List (List ℕ) → List ℕ → ℕ → Type 0
AreTaken names stem n = (k : ℕ) → k < n → has_name names (candidate stem k) ≡ true

-- of each stem that has a number, so many are taken
abbrev pub AreNumbers : List (List ℕ × ℕ) → List (List ℕ) → Type 0
AreNumbers numbers names = (stem : List ℕ) (n : ℕ) → look (slice_cmp nat_cmp) numbers stem ≡ Some n → AreTaken names stem n

-- A context with an index of its names.
use Rattle.std.specs.Prelude.{◌≡◌, ℕ, List, [], ◌∷◌, length, Option, Some, None, if◌then◌else◌, bytes_eq}
use Rattle.std.specs.Ordering.{nat_cmp}
use Rattle.std.specs.Cmp.Lexicographic.{slice_cmp}
use Rattle.shared_map.specs.Entries.{look}
use Rattle.cic_rules.specs.declared.context.Hyp.{Hyp}

-- how many hypotheses stand before the newest of a name
abbrev pub before_newest : List Hyp → List ℕ → Option ℕ
before_newest [] name = None
before_newest (h ∷ hs) name = if bytes_eq name h.name then Some (length hs) else before_newest hs name

-- the index tells it of each name
abbrev pub IsIndex : List (List ℕ × ℕ) → List Hyp → Type 0
IsIndex index ctx = (name : List ℕ) → look (slice_cmp nat_cmp) index name ≡ before_newest ctx name

-- The axioms of each entry, by those of the entries that it uses.
use Rattle.std.specs.Prelude.{ℕ, zero, suc, List, [], ◌∷◌, ◌++◌, Option, Some, None, if◌then◌else◌, slice_get}
use Rattle.cic_rules.specs.declared.env.Slot.{Slot}
use Rattle.cic_rules.specs.Grounded.{is_assumption, axioms}
use Rattle.cic_rules.specs.Infer.{union}

abbrev pub own_axioms : Option (List ℕ) → List ℕ
own_axioms None = []
own_axioms (Some places) = places

module _ (env : List Slot) where
  -- the axioms of each of so many entries, by place
  abbrev pub axioms_before : ℕ → List (List ℕ)
  axioms_before zero = []
  axioms_before (suc n) = axioms_before n ++ (axioms env n ∷ [])

  -- what an entry brings to those that use it: its axioms, and itself where it is one
  abbrev pub brought_by : List (List ℕ) → ℕ → List ℕ
  brought_by lists place =
      if is_assumption env place then union (place ∷ []) (own_axioms (slice_get lists place)) else own_axioms (slice_get lists place)

  -- what entries bring together
  abbrev pub brought : List (List ℕ) → List ℕ → List ℕ
  brought lists [] = []
  brought lists (p ∷ ps) = union (brought_by lists p) (brought lists ps)

-- What reduction asks of an inductive type, told once when it is entered.
use Rattle.std.specs.Prelude.{◌≡◌, ℕ, suc, List, [], ◌∷◌, Bool, Option, Some, None}
use Rattle.std.specs.Cmp.Lexicographic.{slice_cmp}
use Rattle.std.specs.Ordering.{nat_cmp}
use Rattle.shared_map.specs.Entries.{look, IsInOrder}
use Rattle.core_term.specs.Tree.{Tree, Prod}
use Rattle.term_spine.specs.Globals.{mentions}
use Rattle.cic_rules.specs.declared.decls.Ctor.{Ctor}
use Rattle.cic_rules.specs.declared.decls.InductiveDecl.{InductiveDecl}
use Rattle.cic_rules.specs.declared.env.Slot.{Slot}
use Rattle.cic_rules.specs.declared.shapes.FamilyShape.{FamilyShape}
use Rattle.cic_rules.specs.Environments.{decl_at, place_in, IsEnvironment}
use Rattle.cic_rules.specs.Families.{count_params, count_fixed, major_index}

-- which arguments of a constructor have the type at a place in theirs
abbrev pub recursive_of : ℕ → Tree → List Bool
recursive_of place (Prod n a b) = mentions place a ∷ recursive_of place b
recursive_of place t = []

abbrev pub recursive_in : ℕ → List Ctor → List (List Bool)
recursive_in place [] = []
recursive_in place (c ∷ cs) = recursive_of place c.ty ∷ recursive_in place cs

-- the counts of a declaration, and which arguments of its constructors are recursive
abbrev pub shape_of : ℕ → InductiveDecl → FamilyShape
shape_of place d =
    record { params = count_params d; fixed = count_fixed d; major = major_index d; recursive = recursive_in place d.ctors }

abbrev pub shape_if_any : ℕ → Option InductiveDecl → Option FamilyShape
shape_if_any place None = None
shape_if_any place (Some d) = Some (shape_of place d)

-- of the inductive type at a place
abbrev pub shape_at : List Slot → ℕ → Option FamilyShape
shape_at env place = shape_if_any place (decl_at env place)

-- of each global, the first at this place
abbrev pub shapes_from : ℕ → List Slot → List (Option FamilyShape)
shapes_from place [] = []
shapes_from place (s ∷ ss) = shape_if_any place s.decl ∷ shapes_from (suc place) ss

-- what is kept for a place
abbrev pub kept_shape : Option (Option FamilyShape) → Option FamilyShape
kept_shape None = None
kept_shape (Some shape) = shape

-- these are the shapes of the environment's globals
unfoldable pub AreShapes : List (Option FamilyShape) → List Slot → Type 0
AreShapes shapes env = shapes ≡ shapes_from 0 env

-- an environment with what is kept beside it: its names are found by an index in their order, and shapes by their places
pub record IsKept (env : List Slot) (index : List (List ℕ × ℕ)) (told : List (Option FamilyShape)) : Type 0 where
  pub environment : IsEnvironment env
  pub order : IsInOrder (slice_cmp nat_cmp) index
  pub found : (name : List ℕ) → look (slice_cmp nat_cmp) index name ≡ place_in env name
  pub shapes : AreShapes told env

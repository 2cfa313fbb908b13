-- The binders of a `forall` or a `fun` as one list: names with their type, in parentheses or without.
use Rattle.std.specs.Prelude.{◌≡◌, ℕ, List, [], ◌∷◌, slice_index_or}
use Rattle.coq_syntax.specs.declared.words.BoundName.{BoundName}
use Rattle.coq_syntax.specs.Trees.{Term, Binders, Names, Groups, GroupList, NoGroup, Group}

pub record BinderRow : Type 0 where
  pub names : List BoundName
  pub ty : Term

abbrev pub row : List BoundName → Term → BinderRow
row names ty = record { names = names; ty = ty }

-- these are the names and the type at an index
abbrev pub IsRow : List BinderRow → ℕ → List BoundName → Term → Type 0
IsRow rows index names ty = row names ty ≡ slice_index_or rows index (row names ty)

abbrev pub group_rows : GroupList → List BinderRow
group_rows NoGroup = []
group_rows (Group p ns q t r after) = row ns t ∷ group_rows after

abbrev pub binder_rows : Binders → List BinderRow
binder_rows (Names ns p t) = row ns t ∷ []
binder_rows (Groups gs) = group_rows gs

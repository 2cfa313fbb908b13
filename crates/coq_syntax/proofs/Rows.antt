-- Groups as rows of binders.
use Rattle.std.proofs.Common.{◌≡◌, ℕ, zero, suc, ◌<◌, List, [], ◌∷◌, length, get_or, refl, sym, ◌∙◌, ap, subst, arith}
use Rattle.coq_syntax.specs.declared.words.BoundName.{BoundName}
use Rattle.coq_syntax.specs.declared.tree.Group.{Group}
use Rattle.coq_syntax.specs.Trees.{Term}
use Rattle.coq_syntax.specs.Nodes.{groups_of}
use Rattle.coq_syntax.specs.BinderRows.{BinderRow, row, group_rows, IsRow}

pub row_count : (gs : List Group) → length (group_rows (groups_of gs)) ≡ length gs
row_count [] = refl
row_count (g ∷ gs) = omega (arith, row_count gs)

pub row_at : (gs : List Group) (i : ℕ) (g : Group) → i < length gs → g ≡ get_or gs i g → IsRow (group_rows (groups_of gs)) i g.names.items g.ty.value
row_at [] i g lt is = absurd (omega arith)
row_at (x ∷ gs) zero g lt is = ap (λ y. row y.names.items y.ty.value) is
row_at (x ∷ gs) (suc i) g lt is = row_at gs i g (omega arith) is

module _ (rows : List BinderRow) (gs shown : List Group) (all : rows ≡ group_rows (groups_of gs)) (same : shown ≡ gs) (i : ℕ) where
  pub row_within : i < length rows → i < length shown
  row_within lt = omega (arith, lt, ap length all, ap length same, row_count gs)

  pub row_is : (g : Group) (names : List BoundName) (ty : Term) → i < length rows → g ≡ get_or shown i g → names ≡ g.names.items → ty ≡ g.ty.value → IsRow rows i names ty
  row_is g names ty lt is named typed =
      let less : i < length gs = omega (arith, lt, ap length all, row_count gs) in
      let here : IsRow (group_rows (groups_of gs)) i g.names.items g.ty.value = row_at gs i g less (is ∙ ap (λ l. get_or l i g) same) in
      subst (λ r. IsRow r i names ty) (sym all) (subst (λ ns. IsRow (group_rows (groups_of gs)) i ns ty) (sym named) (subst (λ t. IsRow (group_rows (groups_of gs)) i g.names.items t) (sym typed) here))

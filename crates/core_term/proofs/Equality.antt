use Rattle.std.specs.Prelude.{◌≡◌, ◌&&◌, Bool, true, false, refl}
use Rattle.std.proofs.Common.{arith}
use Rattle.core_term.specs.Tree.{Tree, Var, Sorted, Constant, Prod, Lam, LetIn, App, same_tree, size_of}

-- each part of a test that holds, holds
pub both : (a b : Bool) → (a && b) ≡ true → (a ≡ true) × (b ≡ true)
both true true h = (refl, refl)
both true false h = cc
both false b h = cc

-- terms that are equal, names aside, have one size
pub same_tree-size : (t u : Tree) → same_tree t u ≡ true → size_of t ≡ size_of u
same_tree-size (Var i) (Var j) same = refl
same_tree-size (Sorted s) (Sorted r) same = refl
same_tree-size (Constant c) (Constant d) same = refl
same_tree-size (Prod n a b) (Prod m c d) same =
    let parts = both (same_tree a c) (same_tree b d) same in
    omega (arith, same_tree-size a c parts.0, same_tree-size b d parts.1)
same_tree-size (Lam n a b) (Lam m c d) same =
    let parts = both (same_tree a c) (same_tree b d) same in
    omega (arith, same_tree-size a c parts.0, same_tree-size b d parts.1)
same_tree-size (LetIn n a t b) (LetIn m c u d) same =
    let parts = both (same_tree a c && same_tree t u) (same_tree b d) same in
    let first = both (same_tree a c) (same_tree t u) parts.0 in
    omega (arith, same_tree-size a c first.0, same_tree-size t u first.1, same_tree-size b d parts.1)
same_tree-size (App f a) (App g b) same =
    let parts = both (same_tree f g) (same_tree a b) same in
    omega (arith, same_tree-size f g parts.0, same_tree-size a b parts.1)
same_tree-size _ _ same = cc

-- terms of two sizes are not equal
pub same_tree-apart : (t u : Tree) → (size_of t ≡ size_of u → ⊥) → false ≡ same_tree t u
same_tree-apart t u apart = elim (same_tree t u) as (λ b. (b ≡ true → ⊥) → false ≡ b) [ true ↦ λ no. absurd (no refl) | false ↦ λ no. refl ] (λ same. apart (same_tree-size t u same))

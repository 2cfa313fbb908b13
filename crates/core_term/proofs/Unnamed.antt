use Rattle.std.specs.Prelude.{◌≡◌, ℕ, ◌+◌, ◌&&◌, true, refl}
use Rattle.std.proofs.Common.{arith, ap, sym, ◌∙◌}
use Rattle.std.proofs.lemmas.Bool.Decides.{nat_tests}
use Rattle.core_term.specs.declared.sorts.Sort.{Sort}
use Rattle.core_term.specs.declared.sorts.Sort.TheVariants.{PropSort, SetSort, TypeSort}
use Rattle.core_term.specs.Tree.{Tree, Var, Sorted, Constant, Prod, Lam, LetIn, App, same_sort, same_tree, erase_names, size_of, depth_of, free_bound}
use Rattle.core_term.specs.Places.{lift_of, put_for, subst_of}
use Rattle.core_term.proofs.Equality.{both}

same_sort-is : (s r : Sort) → same_sort s r ≡ true → s ≡ r
same_sort-is PropSort PropSort same = refl
same_sort-is SetSort SetSort same = refl
same_sort-is (TypeSort i) (TypeSort j) same = let e : i ≡ j = grind (arith, nat_tests) in ap TypeSort e
same_sort-is _ _ same = cc

same_sort-itself : (s : Sort) → same_sort s s ≡ true
same_sort-itself PropSort = refl
same_sort-itself SetSort = refl
same_sort-itself (TypeSort i) = grind (arith, nat_tests)

-- what is the same, names aside, is one term without its names
pub same_tree-unnamed : (t u : Tree) → same_tree t u ≡ true → erase_names t ≡ erase_names u
same_tree-unnamed (Var i) (Var j) same = let e : i ≡ j = grind (arith, nat_tests) in ap Var e
same_tree-unnamed (Sorted s) (Sorted r) same = ap Sorted (same_sort-is s r same)
same_tree-unnamed (Constant c) (Constant d) same = let e : c ≡ d = grind (arith, nat_tests) in ap Constant e
same_tree-unnamed (Prod n a b) (Prod m c d) same =
    let parts = both (same_tree a c) (same_tree b d) same in
    cc (same_tree-unnamed a c parts.0, same_tree-unnamed b d parts.1)
same_tree-unnamed (Lam n a b) (Lam m c d) same =
    let parts = both (same_tree a c) (same_tree b d) same in
    cc (same_tree-unnamed a c parts.0, same_tree-unnamed b d parts.1)
same_tree-unnamed (LetIn n a t b) (LetIn m c u d) same =
    let parts = both (same_tree a c && same_tree t u) (same_tree b d) same in
    let first = both (same_tree a c) (same_tree t u) parts.0 in
    cc (same_tree-unnamed a c first.0, same_tree-unnamed t u first.1, same_tree-unnamed b d parts.1)
same_tree-unnamed (App f a) (App g b) same =
    let parts = both (same_tree f g) (same_tree a b) same in
    cc (same_tree-unnamed f g parts.0, same_tree-unnamed a b parts.1)
same_tree-unnamed _ _ same = cc

-- and what is one term without its names is the same, names aside
pub unnamed-same_tree : (t u : Tree) → erase_names t ≡ erase_names u → same_tree t u ≡ true
unnamed-same_tree (Var i) (Var j) same = let e : i ≡ j = cc in grind (arith, nat_tests)
unnamed-same_tree (Sorted s) (Sorted r) same = let e : s ≡ r = cc in ap (λ q. same_sort s q) (sym e) ∙ same_sort-itself s
unnamed-same_tree (Constant c) (Constant d) same = let e : c ≡ d = cc in grind (arith, nat_tests)
unnamed-same_tree (Prod n a b) (Prod m c d) same =
    let left = unnamed-same_tree a c (cc) in
    let right = unnamed-same_tree b d (cc) in
    grind arith
unnamed-same_tree (Lam n a b) (Lam m c d) same =
    let left = unnamed-same_tree a c (cc) in
    let right = unnamed-same_tree b d (cc) in
    grind arith
unnamed-same_tree (LetIn n a t b) (LetIn m c u d) same =
    let left = unnamed-same_tree a c (cc) in
    let middle = unnamed-same_tree t u (cc) in
    let right = unnamed-same_tree b d (cc) in
    grind arith
unnamed-same_tree (App f a) (App g b) same =
    let left = unnamed-same_tree f g (cc) in
    let right = unnamed-same_tree a b (cc) in
    grind arith
unnamed-same_tree _ _ same = cc

pub unnamed-lifted : (t : Tree) (by from : ℕ) → erase_names (lift_of t by from) ≡ lift_of (erase_names t) by from
unnamed-lifted (Var i) by from = refl
unnamed-lifted (Sorted s) by from = refl
unnamed-lifted (Constant c) by from = refl
unnamed-lifted (Prod n a b) by from = cc (unnamed-lifted a by from, unnamed-lifted b by (from + 1))
unnamed-lifted (Lam n a b) by from = cc (unnamed-lifted a by from, unnamed-lifted b by (from + 1))
unnamed-lifted (LetIn n a t b) by from = cc (unnamed-lifted a by from, unnamed-lifted t by from, unnamed-lifted b by (from + 1))
unnamed-lifted (App f a) by from = cc (unnamed-lifted f by from, unnamed-lifted a by from)

unnamed-put : (i : ℕ) (v : Tree) (at : ℕ) → erase_names (put_for i v at) ≡ put_for i (erase_names v) at
unnamed-put i v at = grind (arith, nat_tests)

pub unnamed-substituted : (t v : Tree) (at : ℕ) → erase_names (subst_of t v at) ≡ subst_of (erase_names t) (erase_names v) at
unnamed-substituted (Var i) v at = unnamed-put i v at
unnamed-substituted (Sorted s) v at = refl
unnamed-substituted (Constant c) v at = refl
unnamed-substituted (Prod n a b) v at =
    cc (unnamed-substituted a v at, unnamed-substituted b (lift_of v 1 0) (at + 1), unnamed-lifted v 1 0)
unnamed-substituted (Lam n a b) v at =
    cc (unnamed-substituted a v at, unnamed-substituted b (lift_of v 1 0) (at + 1), unnamed-lifted v 1 0)
unnamed-substituted (LetIn n a t b) v at =
    cc (unnamed-substituted a v at, unnamed-substituted t v at, unnamed-substituted b (lift_of v 1 0) (at + 1), unnamed-lifted v 1 0)
unnamed-substituted (App f a) v at = cc (unnamed-substituted f v at, unnamed-substituted a v at)

pub unnamed-size : (t : Tree) → size_of (erase_names t) ≡ size_of t
unnamed-size (Var i) = refl
unnamed-size (Sorted s) = refl
unnamed-size (Constant c) = refl
unnamed-size (Prod n a b) = cc (unnamed-size a, unnamed-size b)
unnamed-size (Lam n a b) = cc (unnamed-size a, unnamed-size b)
unnamed-size (LetIn n a t b) = cc (unnamed-size a, unnamed-size t, unnamed-size b)
unnamed-size (App f a) = cc (unnamed-size f, unnamed-size a)

pub unnamed-depth : (t : Tree) → depth_of (erase_names t) ≡ depth_of t
unnamed-depth (Var i) = refl
unnamed-depth (Sorted s) = refl
unnamed-depth (Constant c) = refl
unnamed-depth (Prod n a b) = cc (unnamed-depth a, unnamed-depth b)
unnamed-depth (Lam n a b) = cc (unnamed-depth a, unnamed-depth b)
unnamed-depth (LetIn n a t b) = cc (unnamed-depth a, unnamed-depth t, unnamed-depth b)
unnamed-depth (App f a) = cc (unnamed-depth f, unnamed-depth a)

pub unnamed-bound : (t : Tree) → free_bound (erase_names t) ≡ free_bound t
unnamed-bound (Var i) = refl
unnamed-bound (Sorted s) = refl
unnamed-bound (Constant c) = refl
unnamed-bound (Prod n a b) = cc (unnamed-bound a, unnamed-bound b)
unnamed-bound (Lam n a b) = cc (unnamed-bound a, unnamed-bound b)
unnamed-bound (LetIn n a t b) = cc (unnamed-bound a, unnamed-bound t, unnamed-bound b)
unnamed-bound (App f a) = cc (unnamed-bound f, unnamed-bound a)

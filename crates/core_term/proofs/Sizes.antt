use Rattle.std.specs.Prelude.{◌≡◌, ℕ, ◌+◌, ◌*◌, ◌≤◌, ◌==◌, if◌then◌else◌, refl}
use Rattle.std.proofs.Common.{arith, ap, ◌∙◌, add-mul, zero-mul, one-mul}
use Rattle.std.proofs.lemmas.Bool.Decides.{nat_tests}
use Rattle.core_term.specs.Tree.{Tree, Var, Sorted, Constant, Prod, Lam, LetIn, App, free_bound, size_of, depth_of}
use Rattle.core_term.specs.Places.{lift_of, put_for, subst_of, occurrences}
use Rattle.core_term.proofs.Bounds.{size-lifted, depth-lifted}

-- a variable that stands below the bound's end does not occur
pub occurrences-above : (t : Tree) (at : ℕ) → free_bound t ≤ at → occurrences t at ≡ 0
occurrences-above (Var i) at above = grind (arith, nat_tests)
occurrences-above (Sorted s) at above = refl
occurrences-above (Constant c) at above = refl
occurrences-above (Prod n a b) at above =
    omega (arith, occurrences-above a at (omega arith), occurrences-above b (at + 1) (omega arith))
occurrences-above (Lam n a b) at above =
    omega (arith, occurrences-above a at (omega arith), occurrences-above b (at + 1) (omega arith))
occurrences-above (LetIn n a t b) at above =
    omega (arith, occurrences-above a at (omega arith), occurrences-above t at (omega arith), occurrences-above b (at + 1) (omega arith))
occurrences-above (App f a) at above =
    omega (arith, occurrences-above f at (omega arith), occurrences-above a at (omega arith))

size-put : (i : ℕ) (v : Tree) (at : ℕ) →
    size_of (put_for i v at) + (if i == at then 1 else 0) ≡ 1 + (if i == at then 1 else 0) * size_of v
size-put i v at = grind (arith, nat_tests, zero-mul (size_of v), one-mul (size_of v))

-- two parts with their occurrences side by side
sum : (s t p q o k v w : ℕ) → s + o ≡ p + o * v → t + k ≡ q + k * w → w ≡ v → s + t + (o + k) ≡ p + q + (o + k) * v
sum s t p q o k v w left right same =
    let other : t + k ≡ q + k * v = right ∙ ap (λ x. q + k * x) same in
    omega (arith, add-mul o k v)

-- a substitution puts the value's size in the place of each occurrence
pub size-substituted : (t v : Tree) (at : ℕ) →
    size_of (subst_of t v at) + occurrences t at ≡ size_of t + occurrences t at * size_of v
size-substituted (Var i) v at = size-put i v at
size-substituted (Sorted s) v at = omega (arith, zero-mul (size_of v))
size-substituted (Constant c) v at = omega (arith, zero-mul (size_of v))
size-substituted (Prod n a b) v at =
    let both = sum (size_of (subst_of a v at)) (size_of (subst_of b (lift_of v 1 0) (at + 1))) (size_of a) (size_of b) (occurrences a at) (occurrences b (at + 1)) (size_of v) (size_of (lift_of v 1 0)) (size-substituted a v at) (size-substituted b (lift_of v 1 0) (at + 1)) (size-lifted v 1 0) in
    omega arith
size-substituted (Lam n a b) v at =
    let both = sum (size_of (subst_of a v at)) (size_of (subst_of b (lift_of v 1 0) (at + 1))) (size_of a) (size_of b) (occurrences a at) (occurrences b (at + 1)) (size_of v) (size_of (lift_of v 1 0)) (size-substituted a v at) (size-substituted b (lift_of v 1 0) (at + 1)) (size-lifted v 1 0) in
    omega arith
size-substituted (LetIn n a t b) v at =
    let first = sum (size_of (subst_of a v at)) (size_of (subst_of t v at)) (size_of a) (size_of t) (occurrences a at) (occurrences t at) (size_of v) (size_of v) (size-substituted a v at) (size-substituted t v at) refl in
    let all = sum (size_of (subst_of a v at) + size_of (subst_of t v at)) (size_of (subst_of b (lift_of v 1 0) (at + 1))) (size_of a + size_of t) (size_of b) (occurrences a at + occurrences t at) (occurrences b (at + 1)) (size_of v) (size_of (lift_of v 1 0)) first (size-substituted b (lift_of v 1 0) (at + 1)) (size-lifted v 1 0) in
    omega arith
size-substituted (App f a) v at =
    let both = sum (size_of (subst_of f v at)) (size_of (subst_of a v at)) (size_of f) (size_of a) (occurrences f at) (occurrences a at) (size_of v) (size_of v) (size-substituted f v at) (size-substituted a v at) refl in
    omega arith

-- a substitution stands no deeper than the term and the value together
pub depth-substituted : (t v : Tree) (at : ℕ) → depth_of (subst_of t v at) ≤ depth_of t + depth_of v
depth-substituted (Var i) v at = grind (arith, nat_tests)
depth-substituted (Sorted s) v at = omega arith
depth-substituted (Constant c) v at = omega arith
depth-substituted (Prod n a b) v at =
    omega (arith, depth-substituted a v at, depth-substituted b (lift_of v 1 0) (at + 1), depth-lifted v 1 0)
depth-substituted (Lam n a b) v at =
    omega (arith, depth-substituted a v at, depth-substituted b (lift_of v 1 0) (at + 1), depth-lifted v 1 0)
depth-substituted (LetIn n a t b) v at =
    omega (arith, depth-substituted a v at, depth-substituted t v at, depth-substituted b (lift_of v 1 0) (at + 1), depth-lifted v 1 0)
depth-substituted (App f a) v at = omega (arith, depth-substituted f v at, depth-substituted a v at)

use Rattle.std.specs.Prelude.{ℕ, ◌+◌, ◌^◌, ◌≤◌}
use Rattle.std.proofs.Common.{arith}
use Rattle.std.proofs.lemmas.Bool.Decides.{nat_tests}
use Rattle.core_term.specs.Tree.{Tree, Var, Sorted, Constant, Prod, Lam, LetIn, App, free_bound, depth_of, IsNumbered}
use Rattle.core_term.specs.Places.{lift_of, put_for, subst_of}
use Rattle.core_term.proofs.Bounds.{depth-lifted}
use Rattle.core_term.proofs.Sizes.{depth-substituted}

-- free variables rise by the room that was made
pub free_bound-lifted : (t : Tree) (by from : ℕ) → free_bound (lift_of t by from) ≤ free_bound t + by
free_bound-lifted (Var i) by from = grind (arith, nat_tests)
free_bound-lifted (Sorted s) by from = omega arith
free_bound-lifted (Constant c) by from = omega arith
free_bound-lifted (Prod n a b) by from = omega (arith, free_bound-lifted a by from, free_bound-lifted b by (from + 1))
free_bound-lifted (Lam n a b) by from = omega (arith, free_bound-lifted a by from, free_bound-lifted b by (from + 1))
free_bound-lifted (LetIn n a t b) by from =
    omega (arith, free_bound-lifted a by from, free_bound-lifted t by from, free_bound-lifted b by (from + 1))
free_bound-lifted (App f a) by from = omega (arith, free_bound-lifted f by from, free_bound-lifted a by from)

free_bound-put : (i : ℕ) (v : Tree) (at n : ℕ) → at ≤ n → i + 1 ≤ n + 1 → free_bound v ≤ n → free_bound (put_for i v at) ≤ n
free_bound-put i v at n within below value_below = grind (arith, nat_tests)

-- a substitution takes a term of n + 1 variables and a value of n variables to a term of n variables
pub free_bound-substituted : (t v : Tree) (at n : ℕ) → at ≤ n → free_bound t ≤ n + 1 → free_bound v ≤ n → free_bound (subst_of t v at) ≤ n
free_bound-substituted (Var i) v at n within below value_below = free_bound-put i v at n within below value_below
free_bound-substituted (Sorted s) v at n within below value_below = omega arith
free_bound-substituted (Constant c) v at n within below value_below = omega arith
free_bound-substituted (Prod k a b) v at n within below value_below =
    let raised = free_bound-lifted v 1 0 in
    omega (arith, free_bound-substituted a v at n within (omega arith) value_below, free_bound-substituted b (lift_of v 1 0) (at + 1) (n + 1) (omega arith) (omega arith) (omega arith))
free_bound-substituted (Lam k a b) v at n within below value_below =
    let raised = free_bound-lifted v 1 0 in
    omega (arith, free_bound-substituted a v at n within (omega arith) value_below, free_bound-substituted b (lift_of v 1 0) (at + 1) (n + 1) (omega arith) (omega arith) (omega arith))
free_bound-substituted (LetIn k a t b) v at n within below value_below =
    let raised = free_bound-lifted v 1 0 in
    omega (arith, free_bound-substituted a v at n within (omega arith) value_below, free_bound-substituted t v at n within (omega arith) value_below, free_bound-substituted b (lift_of v 1 0) (at + 1) (n + 1) (omega arith) (omega arith) (omega arith))
free_bound-substituted (App f a) v at n within below value_below =
    omega (arith, free_bound-substituted f v at n within (omega arith) value_below, free_bound-substituted a v at n within (omega arith) value_below)

-- a term with few variables that is not too deep has no large index
pub numbered : (t : Tree) (n : ℕ) → free_bound t ≤ n → n + depth_of t ≤ 2 ^ 32 → IsNumbered t
numbered (Var i) n below fits = omega arith
numbered (Sorted s) n below fits = tt
numbered (Constant c) n below fits = tt
numbered (Prod k a b) n below fits =
    (numbered a n (omega arith) (omega arith), numbered b (n + 1) (omega arith) (omega arith))
numbered (Lam k a b) n below fits =
    (numbered a n (omega arith) (omega arith), numbered b (n + 1) (omega arith) (omega arith))
numbered (LetIn k a t b) n below fits =
    (numbered a n (omega arith) (omega arith), numbered t n (omega arith) (omega arith), numbered b (n + 1) (omega arith) (omega arith))
numbered (App f a) n below fits =
    (numbered f n (omega arith) (omega arith), numbered a n (omega arith) (omega arith))

-- so room can be made in it
pub numbered-lifted : (t : Tree) (by from n : ℕ) → free_bound t ≤ n → n + by + depth_of t ≤ 2 ^ 32 → IsNumbered (lift_of t by from)
numbered-lifted t by from n below fits =
    let raised = free_bound-lifted t by from in
    let same_depth = depth-lifted t by from in
    numbered (lift_of t by from) (n + by) (omega arith) (omega arith)

-- and a value can be put in
pub numbered-substituted : (t v : Tree) (at n : ℕ) → at ≤ n → free_bound t ≤ n + 1 → free_bound v ≤ n → n + (depth_of t + depth_of v) ≤ 2 ^ 32 →
    IsNumbered (subst_of t v at)
numbered-substituted t v at n within below value_below fits =
    let deeper = depth-substituted t v at in
    numbered (subst_of t v at) n (free_bound-substituted t v at n within below value_below) (omega arith)

-- no free variable stands past the last index
pub free_bound-numbered : (t : Tree) → IsNumbered t → free_bound t ≤ 2 ^ 32
free_bound-numbered (Var i) fits = omega arith
free_bound-numbered (Sorted s) fits = omega arith
free_bound-numbered (Constant c) fits = omega arith
free_bound-numbered (Prod k a b) fits = omega (arith, free_bound-numbered a fits.0, free_bound-numbered b fits.1)
free_bound-numbered (Lam k a b) fits = omega (arith, free_bound-numbered a fits.0, free_bound-numbered b fits.1)
free_bound-numbered (LetIn k a t b) fits =
    omega (arith, free_bound-numbered a fits.0, free_bound-numbered t fits.1, free_bound-numbered b fits.2)
free_bound-numbered (App f a) fits = omega (arith, free_bound-numbered f fits.0, free_bound-numbered a fits.1)

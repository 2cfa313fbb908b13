use Rattle.std.specs.Prelude.{◌≡◌, ℕ, ◌+◌, ◌≤◌, Ok, refl}
use Rattle.std.proofs.Common.{arith, ap, ◌∙◌, sym}
use Rattle.std.proofs.lemmas.Bool.Decides.{nat_tests}
use Rattle.core_term.specs.Tree.{Tree, Var, Sorted, Constant, Prod, Lam, LetIn, App, free_bound, size_of, depth_of, IsTerm}
use Rattle.core_term.specs.Places.{lift_of}
use Rattle.core_term.specs.Answers.{within_limits}
use Rattle.core_term.proofs.Lifts.{lifted-above, lifted-zero}

-- a term that the program holds passes no limit
pub bounded-term : (t : Tree) → IsTerm t → within_limits t ≡ Ok t
bounded-term t is = grind (arith, nat_tests)

pub bounded-above : (t : Tree) (by from : ℕ) → IsTerm t → free_bound t ≤ from → Ok t ≡ within_limits (lift_of t by from)
bounded-above t by from is above = sym (ap within_limits (lifted-above t by from above) ∙ bounded-term t is)

pub bounded-zero : (t : Tree) (by from : ℕ) → IsTerm t → by ≡ 0 → Ok t ≡ within_limits (lift_of t by from)
bounded-zero t by from is none =
    sym (ap (λ n. within_limits (lift_of t n from)) none ∙ ap within_limits (lifted-zero t from) ∙ bounded-term t is)

-- a lift changes no size and no depth
pub size-lifted : (t : Tree) (by from : ℕ) → size_of (lift_of t by from) ≡ size_of t
size-lifted (Var i) by from = refl
size-lifted (Sorted s) by from = refl
size-lifted (Constant c) by from = refl
size-lifted (Prod n a b) by from = cc (size-lifted a by from, size-lifted b by (from + 1))
size-lifted (Lam n a b) by from = cc (size-lifted a by from, size-lifted b by (from + 1))
size-lifted (LetIn n a t b) by from = cc (size-lifted a by from, size-lifted t by from, size-lifted b by (from + 1))
size-lifted (App f a) by from = cc (size-lifted f by from, size-lifted a by from)

pub depth-lifted : (t : Tree) (by from : ℕ) → depth_of (lift_of t by from) ≡ depth_of t
depth-lifted (Var i) by from = refl
depth-lifted (Sorted s) by from = refl
depth-lifted (Constant c) by from = refl
depth-lifted (Prod n a b) by from = cc (depth-lifted a by from, depth-lifted b by (from + 1))
depth-lifted (Lam n a b) by from = cc (depth-lifted a by from, depth-lifted b by (from + 1))
depth-lifted (LetIn n a t b) by from = cc (depth-lifted a by from, depth-lifted t by from, depth-lifted b by (from + 1))
depth-lifted (App f a) by from = cc (depth-lifted f by from, depth-lifted a by from)

-- so a lift passes no limit
pub bounded-lifted : (t : Tree) (by from : ℕ) → IsTerm t → within_limits (lift_of t by from) ≡ Ok (lift_of t by from)
bounded-lifted t by from is =
    let same_size = size-lifted t by from in
    let same_depth = depth-lifted t by from in
    grind (arith, nat_tests)

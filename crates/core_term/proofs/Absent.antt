use Rattle.std.specs.Prelude.{◌≡◌, ℕ, ◌+◌, refl}
use Rattle.std.proofs.Common.{arith}
use Rattle.std.proofs.lemmas.Bool.Decides.{nat_tests}
use Rattle.core_term.specs.Tree.{Tree, Var, Sorted, Constant, Prod, Lam, LetIn, App}
use Rattle.core_term.specs.Places.{lift_of, subst_of, occurrences}

-- what is put in for a variable that does not occur makes no difference
pub substituted-absent : (t v w : Tree) (at : ℕ) → occurrences t at ≡ 0 → subst_of t v at ≡ subst_of t w at
substituted-absent (Var i) v w at none = grind (arith, nat_tests)
substituted-absent (Sorted s) v w at none = refl
substituted-absent (Constant c) v w at none = refl
substituted-absent (Prod n a b) v w at none =
    cc (substituted-absent a v w at (omega arith), substituted-absent b (lift_of v 1 0) (lift_of w 1 0) (at + 1) (omega arith))
substituted-absent (Lam n a b) v w at none =
    cc (substituted-absent a v w at (omega arith), substituted-absent b (lift_of v 1 0) (lift_of w 1 0) (at + 1) (omega arith))
substituted-absent (LetIn n a t b) v w at none =
    cc (substituted-absent a v w at (omega arith), substituted-absent t v w at (omega arith), substituted-absent b (lift_of v 1 0) (lift_of w 1 0) (at + 1) (omega arith))
substituted-absent (App f a) v w at none =
    cc (substituted-absent f v w at (omega arith), substituted-absent a v w at (omega arith))

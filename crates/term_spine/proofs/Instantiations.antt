-- What instantiation leaves alone, and what it does to measures.
use Rattle.std.specs.Prelude.{◌≡◌, ℕ, zero, suc, ◌+◌, ◌-◌, ◌^◌, ◌≤◌, ◌<◌, nat_lt, true, false, List, [], ◌∷◌, length, Ok, slice_get, if◌then◌else◌, refl}
use Rattle.std.proofs.Common.{arith, ap, ◌∙◌, sym}
use Rattle.std.proofs.lemmas.Bool.Decides.{nat_tests}
use Rattle.core_term.specs.Tree.{Tree, Var, Sorted, Constant, Prod, Lam, LetIn, App, free_bound, size_of, depth_of, IsTerm, IsNumbered}
use Rattle.core_term.specs.Places.{lift_of}
use Rattle.core_term.specs.Answers.{within_limits}
use Rattle.core_term.proofs.Bounds.{bounded-term, size-lifted, depth-lifted}
use Rattle.core_term.proofs.FreeVariables.{free_bound-lifted, numbered}
use Rattle.term_spine.specs.Instantiate.{instantiated_variable, instantiate_under}
use Rattle.term_spine.specs.SpineLaws.{AreOver, AreShallow}

pub size_lifted : (t : Tree) (by from : ℕ) → size_of (lift_of t by from) ≡ size_of t
size_lifted t by from = size-lifted t by from

variable_above : (values : List Tree) (i binders : ℕ) → i + 1 ≤ binders → instantiate_under values (Var i) binders ≡ Var i
variable_above values i binders above = grind (arith, nat_tests)

-- a term without variables of the context is left alone
pub instantiate_above : (values : List Tree) (t : Tree) (binders : ℕ) → free_bound t ≤ binders → instantiate_under values t binders ≡ t
instantiate_above values (Var i) binders above = variable_above values i binders above
instantiate_above values (Sorted s) binders above = refl
instantiate_above values (Constant c) binders above = refl
instantiate_above values (Prod n a b) binders above =
    cc (instantiate_above values a binders (omega arith), instantiate_above values b (binders + 1) (omega arith))
instantiate_above values (Lam n a b) binders above =
    cc (instantiate_above values a binders (omega arith), instantiate_above values b (binders + 1) (omega arith))
instantiate_above values (LetIn n a t b) binders above =
    cc (instantiate_above values a binders (omega arith), instantiate_above values t binders (omega arith), instantiate_above values b (binders + 1) (omega arith))
instantiate_above values (App f a) binders above =
    cc (instantiate_above values f binders (omega arith), instantiate_above values a binders (omega arith))

pub limits_above : (values : List Tree) (t : Tree) (binders : ℕ) → IsTerm t → free_bound t ≤ binders →
    Ok t ≡ within_limits (instantiate_under values t binders)
limits_above values t binders is above = sym (ap within_limits (instantiate_above values t binders above) ∙ bounded-term t is)

variable_free : (values : List Tree) (at i count binders n : ℕ) → AreOver n values → at < length values →
    free_bound (instantiated_variable (slice_get values at) i count binders) ≤ n + binders
variable_free [] at i count binders n over within = absurd (omega arith)
variable_free (v ∷ values) zero i count binders n over within = omega (arith, free_bound-lifted v binders 0, over.0)
variable_free (v ∷ values) (suc at) i count binders n over within = variable_free values at i count binders n over.1 (omega arith)

-- values of n variables for all variables of a context take its terms to terms of n variables
pub instantiate_free : (values : List Tree) (t : Tree) (binders n : ℕ) → AreOver n values → free_bound t ≤ length values + binders →
    free_bound (instantiate_under values t binders) ≤ n + binders
instantiate_free values (Var i) binders n over within =
    elim (nat_lt i binders) as (λ b. nat_lt i binders ≡ b → free_bound (if b then Var i else instantiated_variable (slice_get values (i - binders)) i (length values) binders) ≤ n + binders) [
      | true ↦ λ below. grind (arith, nat_tests)
      | false ↦ λ above. variable_free values (i - binders) i (length values) binders n over (grind (arith, nat_tests))
    ] refl
instantiate_free values (Sorted s) binders n over within = omega arith
instantiate_free values (Constant c) binders n over within = omega arith
instantiate_free values (Prod k a b) binders n over within =
    omega (arith, instantiate_free values a binders n over (omega arith), instantiate_free values b (binders + 1) n over (omega arith))
instantiate_free values (Lam k a b) binders n over within =
    omega (arith, instantiate_free values a binders n over (omega arith), instantiate_free values b (binders + 1) n over (omega arith))
instantiate_free values (LetIn k a t b) binders n over within =
    omega (arith, instantiate_free values a binders n over (omega arith), instantiate_free values t binders n over (omega arith), instantiate_free values b (binders + 1) n over (omega arith))
instantiate_free values (App f a) binders n over within =
    omega (arith, instantiate_free values f binders n over (omega arith), instantiate_free values a binders n over (omega arith))

variable_depth : (values : List Tree) (at i count binders d : ℕ) → AreShallow d values →
    depth_of (instantiated_variable (slice_get values at) i count binders) ≤ 1 + d
variable_depth [] at i count binders d shallow = omega arith
variable_depth (v ∷ values) zero i count binders d shallow = omega (arith, depth-lifted v binders 0, shallow.0)
variable_depth (v ∷ values) (suc at) i count binders d shallow = variable_depth values at i count binders d shallow.1

-- the answer is no deeper than the term and the deepest value together
pub instantiate_depth : (values : List Tree) (t : Tree) (binders d : ℕ) → AreShallow d values →
    depth_of (instantiate_under values t binders) ≤ depth_of t + d
instantiate_depth values (Var i) binders d shallow =
    elim (nat_lt i binders) as (λ b. depth_of (if b then Var i else instantiated_variable (slice_get values (i - binders)) i (length values) binders) ≤ 1 + d) [
      | true ↦ omega arith
      | false ↦ variable_depth values (i - binders) i (length values) binders d shallow
    ]
instantiate_depth values (Sorted s) binders d shallow = omega arith
instantiate_depth values (Constant c) binders d shallow = omega arith
instantiate_depth values (Prod k a b) binders d shallow =
    omega (arith, instantiate_depth values a binders d shallow, instantiate_depth values b (binders + 1) d shallow)
instantiate_depth values (Lam k a b) binders d shallow =
    omega (arith, instantiate_depth values a binders d shallow, instantiate_depth values b (binders + 1) d shallow)
instantiate_depth values (LetIn k a t b) binders d shallow =
    omega (arith, instantiate_depth values a binders d shallow, instantiate_depth values t binders d shallow, instantiate_depth values b (binders + 1) d shallow)
instantiate_depth values (App f a) binders d shallow =
    omega (arith, instantiate_depth values f binders d shallow, instantiate_depth values a binders d shallow)

-- so values may be put in where there are few variables
pub instantiate_numbered : (values : List Tree) (t : Tree) (binders n d : ℕ) → AreOver n values → AreShallow d values →
    free_bound t ≤ length values + binders → n + binders + depth_of t + d ≤ 2 ^ 32 → IsNumbered (instantiate_under values t binders)
instantiate_numbered values t binders n d over shallow within fits =
    let free = instantiate_free values t binders n over within in
    let deep = instantiate_depth values t binders d shallow in
    numbered (instantiate_under values t binders) (n + binders) free (omega arith)

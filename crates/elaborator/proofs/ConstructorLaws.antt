-- The oldest variables of a context as arguments.
use Rattle.std.proofs.Common.{◌≡◌, ℕ, zero, suc, ◌-◌, ◌≤◌, [], take, Ok, refl, sym, ◌∙◌, ap, arith}
use Rattle.core_term.specs.Tree.{Tree, Var, App}
use Rattle.term_spine.specs.Spine.{variables_of}
use Rattle.cic_rules.specs.Steps.{step_then, answer_of}
use Rattle.elaborator.specs.Parts.{sized, applied}

take_none : (k : ℕ) → take {A = Tree} k [] ≡ []
take_none zero = refl
take_none (suc k) = refl

-- one more of the oldest variables
pub oldest_more : (params variables : ℕ) (f : Tree) → 1 ≤ params → 1 ≤ variables →
    applied f (take params (variables_of variables))
    ≡ step_then (sized (App f (Var (variables - 1)))) (λ g. applied g (take (params - 1) (variables_of (variables - 1))))
oldest_more params variables f some any =
    let one : params ≡ suc (params - 1) = omega (arith, some) in
    let two : variables ≡ suc (variables - 1) = omega (arith, any) in
    ap (λ n. applied f (take n (variables_of variables))) one ∙ ap (λ n. applied f (take (suc (params - 1)) (variables_of n))) two

pub oldest_none : (params variables : ℕ) (f : Tree) → params ≡ 0 → Ok f ≡ answer_of (applied f (take params (variables_of variables)))
oldest_none params variables f e = ap (λ n. answer_of (applied f (take n (variables_of variables)))) (sym e)

pub no_variable : (params variables : ℕ) (f : Tree) → variables ≡ 0 → Ok f ≡ answer_of (applied f (take params (variables_of variables)))
no_variable params variables f e =
    sym (ap (λ n. answer_of (applied f (take params (variables_of n)))) e ∙ ap (λ ts. answer_of (applied f ts)) (take_none params))

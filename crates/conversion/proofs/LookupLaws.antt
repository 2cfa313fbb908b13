-- When a lift may be called, and what a hypothesis speaks of.
use Rattle.std.specs.Prelude.{◌≡◌, ℕ, zero, suc, ◌+◌, ◌^◌, ◌≤◌, List, [], ◌∷◌, length, Option, Some, None, Ok, slice_get}
use Rattle.std.proofs.Common.{arith, ◌∙◌, ap, subst}
use Rattle.core_term.specs.Tree.{Tree, IsTerm, IsNumbered, free_bound}
use Rattle.core_term.specs.Places.{lift_of}
use Rattle.core_term.specs.Answers.{within_limits}
use Rattle.core_term.proofs.Bounds.{bounded-lifted}
use Rattle.core_term.proofs.FreeVariables.{free_bound-lifted, numbered}
use Rattle.core_term.proofs.Bounds.{depth-lifted}
use Rattle.cic_rules.specs.declared.context.Hyp.{Hyp}
use Rattle.cic_rules.specs.Contexts.{AreHyps, IsInIfAny}

pub lift_fits : (t : Tree) (by : ℕ) → IsTerm t → within_limits (lift_of t by 0) ≡ Ok (lift_of t by 0)
lift_fits t by is = bounded-lifted t by 0 is

pub lift_numbered : (t : Tree) (by : ℕ) → IsTerm t → free_bound t + by ≤ 2 ^ 31 + 5000 → IsNumbered (lift_of t by 0)
lift_numbered t by is few =
    let free = free_bound-lifted t by 0 in
    let deep = depth-lifted t by 0 in
    let shallow = is.shallow in
    numbered (lift_of t by 0) (2 ^ 31 + 5000) (omega (arith, free, few)) (omega (arith, deep, shallow))

bound_is : (n : ℕ) (value : Option Tree) (v : Tree) → value ≡ Some v → IsInIfAny n value → free_bound v ≤ n
bound_is n None v e h = cc
bound_is n (Some u) v e h = let same : u ≡ v = cc in subst (λ x. free_bound x ≤ n) same h

-- the variables of a hypothesis' definition are older than it
pub older : (ctx : List Hyp) (i : ℕ) (h : Hyp) (v : Tree) → AreHyps ctx → slice_get ctx i ≡ Some h → h.value ≡ Some v →
    free_bound v + (i + 1) ≤ length ctx
older [] i h v all found is = cc
older (x ∷ xs) zero h v all found is =
    let same : x ≡ h = cc in
    let value : x.value ≡ Some v = ap (λ y. y.value) same ∙ is in
    let bound = bound_is (length xs) x.value v value all.0.value in
    omega (arith, bound)
older (x ∷ xs) (suc i) h v all found is = let rest = older xs i h v all.1 found is in omega (arith, rest)

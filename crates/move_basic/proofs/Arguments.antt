-- The variables of a type's products: what stands in scope, before they are matched and when their arguments are made.
use Rattle.std.specs.Prelude.{◌≡◌, ℕ, zero, suc, ◌+◌, ◌-◌, ◌^◌, ◌==◌, ◌≤◌, List, length, Option, Bool, false, Some, None, Result, Ok, if◌then◌else◌, refl}
use Rattle.std.proofs.Common.{subst, sym, ap, arith}
use Rattle.std.proofs.lemmas.Bool.Decides.{nat_tests}
use Rattle.base_core.specs.declared.refusals.Stop.{Stop}
use Rattle.core_term.specs.Answers.{within_limits}
use Rattle.core_term.specs.Places.{lift_of}
use Rattle.core_term.specs.Tree.{Tree, Prod, IsTerm, IsNumbered, free_bound}
use Rattle.core_term.proofs.Bounds.{bounded-lifted}
use Rattle.core_term.proofs.FreeVariables.{numbered-lifted}
use Rattle.cic_rules.specs.declared.context.Hyp.{Hyp}
use Rattle.cic_rules.specs.declared.env.Slot.{Slot}
use Rattle.cic_rules.specs.Fuel.{FuelState, left, calls_left}
use Rattle.cic_rules.specs.Judges.{Meets}
use Rattle.cic_rules.specs.Runs.{Run, pure}
use Rattle.cic_rules.specs.Scopes.{IsScoped}
use Rattle.cic_rules.proofs.ScopeLaws.{scoped_free, scoped_lift}
use Rattle.matching.specs.Patterns.{Values, unset_values}
use Rattle.matching.specs.Scopes.{AreValues, IsPatternIn, Finds}
use Rattle.proof_state.specs.declared.goals.Goal.{Goal}
use Rattle.proof_state.specs.Partial.{Partial}
use Rattle.move_basic.specs.Calls.{next_argument, next_argument_with, arguments_with}
use Rattle.move_basic.specs.Scopes.{AreFoundFor}

pub unset_count : (n : ℕ) → length (unset_values n) ≡ n
unset_count zero = refl
unset_count (suc n) = ap suc (unset_count n)

unset_values_in : (vars globals n : ℕ) → AreValues vars globals (unset_values n)
unset_values_in vars globals zero = tt
unset_values_in vars globals (suc n) = (tt, unset_values_in vars globals n)

-- variables that are unset, in a type behind their products
pub unset_pattern : (env : List Slot) (ctx : List Hyp) (n : ℕ) (values : Values) (t : Tree) → values ≡ unset_values n →
    IsScoped (length ctx + n) (length env) t → IsPatternIn env ctx 0 values t
unset_pattern env ctx n values t e scoped =
    subst (λ (vs : Values). IsPatternIn env ctx 0 vs t) (sym e)
    (record {
      within = omega arith;
      pattern = subst (λ k. IsScoped (length ctx + k) (length env) t) (sym (unset_count n)) scoped;
      found = unset_values_in (length ctx - 0) (length env) n;
    })

pub one_behind : (n m k : ℕ) (t : Tree) → IsScoped (suc (n + k)) m t → IsScoped (n + (k + 1)) m t
one_behind n m k t scoped = let e : suc (n + k) ≡ n + (k + 1) = omega arith in subst (λ v. IsScoped v m t) e scoped

-- what a match finds for them
pub found_for : (env : List Slot) (ctx : List Hyp) (n : ℕ) (values : Values) (found : Option Values) → values ≡ unset_values n → n ≤ 1000 →
    Finds env ctx 0 values found → AreFoundFor (length ctx - 0) (length env) found
found_for env ctx n values None e few finds = tt
found_for env ctx n values (Some found) e few finds =
    let count : length values ≡ n = subst (λ (vs : Values). length vs ≡ n) (sym e) (unset_count n) in
    let same = finds.count in
    (finds.scoped, omega (arith, few, count, same))

-- the first variable of all
pub all_left : (n m k : ℕ) (t : Tree) → IsScoped n m t → IsScoped (n + (k - k)) m t
all_left n m k t scoped = let e : n ≡ n + (k - k) = omega arith in subst (λ v. IsScoped v m t) e scoped

-- the next one
pub next_codomain : (n m k count : ℕ) (t : Tree) → 1 ≤ count → count ≤ k → IsScoped (suc (n + (k - count))) m t → IsScoped (n + (k - (count - 1))) m t
next_codomain n m k count t some within scoped =
    let e : suc (n + (k - count)) ≡ n + (k - (count - 1)) = omega (arith, some, within) in subst (λ v. IsScoped v m t) e scoped

-- the type of one as it stands behind all of them
pub domain_pattern : (env : List Slot) (ctx : List Hyp) (values : Values) (count : ℕ) (a : Tree) → count ≤ length values →
    IsScoped (length ctx + (length values - count)) (length env) a → AreValues (length ctx - 0) (length env) values →
    IsPatternIn env ctx 0 values (lift_of a count 0)
domain_pattern env ctx values count a within scoped found =
    let whole : length ctx + length values ≡ length ctx + (length values - count) + count = omega (arith, within) in
    record {
      within = omega arith;
      pattern = scoped_lift (length ctx + (length values - count)) (length ctx + length values) (length env) count 0 a whole scoped;
      found = found;
    }

pub domain_free : (n m k count : ℕ) (a : Tree) → n ≤ 2 ^ 31 → k ≤ 1000 → count ≤ k → IsScoped (n + (k - count)) m a →
    free_bound a + count + 1000 ≤ 2 ^ 32
domain_free n m k count a short few within scoped =
    let free = scoped_free (n + (k - count)) m a scoped in omega (arith, free, short, few, within)

pub lift_fits : (t : Tree) (count : ℕ) → IsTerm t → within_limits (lift_of t count 0) ≡ Ok (lift_of t count 0)
lift_fits t count term = bounded-lifted t count 0 term

pub lift_numbered : (t : Tree) (count : ℕ) → IsTerm t → free_bound t + count + 1000 ≤ 2 ^ 32 → IsNumbered (lift_of t count 0)
lift_numbered t count term room =
    let shallow = term.shallow in numbered-lifted t count 0 (free_bound t) (omega arith) (omega (arith, shallow, room))

-- a product's variable, and what stands behind it
pub one_more : (env : List Slot) (ctx : List Hyp) (values : Values) (count : ℕ) (t : Tree) (n : List ℕ) (a b : Tree) (function : Partial Goal)
    (f : FuelState) (result : Result (Partial Goal) Stop) (units : ℕ) → 1 ≤ count → t ≡ Prod n a b →
    Meets result units (next_argument_with env ctx values count a b function f) → Meets result units (arguments_with env ctx values count t function f)
one_more env ctx values count t n a b function f result units some is met =
    let more : (count == 0) ≡ false = grind (arith, nat_tests, some) in
    let next : Run (Partial Goal) = next_argument env (calls_left f) ctx values count a b function in
    subst (λ (u : Tree). Meets result units (arguments_with env ctx values count u function f)) (sym is)
    (subst (λ (none : Bool). Meets result units ((if none then pure function else next) (left f))) (sym more) met)

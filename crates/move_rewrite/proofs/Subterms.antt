-- Subterms: the search for one, and what stands in scope.
use Rattle.std.specs.Prelude.{◌≡◌, ℕ, ◌+◌, List, length, Bool, true, false, Option, Some, None, Ok, Err, refl, if◌then◌else◌}
use Rattle.std.proofs.Common.{subst, sym, ap, ◌∙◌, arith}
use Rattle.base_core.specs.declared.refusals.Stop.{Stop}
use Rattle.core_term.specs.Tree.{Tree, Var, Sorted, Constant, Prod, Lam, LetIn, App}
use Rattle.cic_rules.specs.declared.context.Hyp.{Hyp}
use Rattle.cic_rules.specs.declared.env.Slot.{Slot}
use Rattle.cic_rules.specs.Fuel.{FuelState, left, calls_left}
use Rattle.cic_rules.specs.Judges.{Meets}
use Rattle.cic_rules.specs.Runs.{Run, pure}
use Rattle.cic_rules.specs.Scopes.{IsScoped}
use Rattle.matching.specs.Lowering.{has_bound, lower_of, without_binders}
use Rattle.matching.specs.Patterns.{Values, unset_values}
use Rattle.matching.specs.Scopes.{Finds}
use Rattle.matching.proofs.Lowerings.{lower_scoped}
use Rattle.move_basic.proofs.Arguments.{unset_count}
use Rattle.move_rewrite.specs.declared.searching.Found.{Found}
use Rattle.move_rewrite.specs.Calls.{tried_with, first_found_with}
use Rattle.move_rewrite.specs.Scopes.{IsFoundFor}
use Rattle.move_rewrite.proofs.RunsInTurn.{after_value, after_stop}
use Rattle.move_rewrite.specs.Search.{or_later, first_in, tried, first_found}

-- the parts of a term, from the left
abbrev pub found_in_parts : List Slot → ℕ → List Hyp → ℕ → Tree → ℕ → Tree → Run (Option Found)
found_in_parts env calls ctx count pattern binders (Var i) = pure None
found_in_parts env calls ctx count pattern binders (Sorted s) = pure None
found_in_parts env calls ctx count pattern binders (Constant c) = pure None
found_in_parts env calls ctx count pattern binders (Prod n a b) =
    first_in (first_found env calls ctx count pattern binders a) (first_found env calls ctx count pattern (binders + 1) b)
found_in_parts env calls ctx count pattern binders (Lam n a b) =
    first_in (first_found env calls ctx count pattern binders a) (first_found env calls ctx count pattern (binders + 1) b)
found_in_parts env calls ctx count pattern binders (LetIn n a t b) =
    first_in (first_found env calls ctx count pattern binders a)
    (first_in (first_found env calls ctx count pattern binders t) (first_found env calls ctx count pattern (binders + 1) b))
found_in_parts env calls ctx count pattern binders (App f a) =
    first_in (first_found env calls ctx count pattern binders f) (first_found env calls ctx count pattern binders a)

-- a term is tried first
pub first_found_is : (env : List Slot) (calls : ℕ) (ctx : List Hyp) (count : ℕ) (pattern : Tree) (binders : ℕ) (t : Tree) →
    first_found env calls ctx count pattern binders t
    ≡ first_in (tried env calls ctx count pattern binders t) (found_in_parts env calls ctx count pattern binders t)
first_found_is env calls ctx count pattern binders (Var i) = refl
first_found_is env calls ctx count pattern binders (Sorted s) = refl
first_found_is env calls ctx count pattern binders (Constant c) = refl
first_found_is env calls ctx count pattern binders (Prod n a b) = refl
first_found_is env calls ctx count pattern binders (Lam n a b) = refl
first_found_is env calls ctx count pattern binders (LetIn n a t b) = refl
first_found_is env calls ctx count pattern binders (App f a) = refl

-- so what is tried decides, where it finds something or stops
pub found_itself : (env : List Slot) (ctx : List Hyp) (count : ℕ) (pattern : Tree) (binders : ℕ) (t : Tree) (f : FuelState) (units : ℕ) (x : Found) →
    Meets (Ok (Some x)) units (tried_with env ctx count pattern binders t f) → Meets (Ok (Some x)) units (first_found_with env ctx count pattern binders t f)
found_itself env ctx count pattern binders t f units x met =
    subst (λ (run : Run (Option Found)). Meets (Ok (Some x)) units (run (left f))) (sym (first_found_is env (calls_left f) ctx count pattern binders t))
    (after_value (tried env (calls_left f) ctx count pattern binders t) (or_later (found_in_parts env (calls_left f) ctx count pattern binders t)) (left f) units
    (Some x) (Ok (Some x)) units met.0 met.1 (refl, refl))

pub stopped_itself : (env : List Slot) (ctx : List Hyp) (count : ℕ) (pattern : Tree) (binders : ℕ) (t : Tree) (f : FuelState) (units : ℕ) (stop : Stop) →
    Meets (Err stop) units (tried_with env ctx count pattern binders t f) → Meets (Err stop) units (first_found_with env ctx count pattern binders t f)
stopped_itself env ctx count pattern binders t f units stop met =
    subst (λ (run : Run (Option Found)). Meets (Err stop) units (run (left f))) (sym (first_found_is env (calls_left f) ctx count pattern binders t))
    (after_stop (tried env (calls_left f) ctx count pattern binders t) (or_later (found_in_parts env (calls_left f) ctx count pattern binders t)) (left f) units stop met)

-- a term taken out of binders is in scope there
scoped_by : (b : Bool) (n m by : ℕ) (t u : Tree) → has_bound t by 0 ≡ b → (if b then None else Some (lower_of t by 0)) ≡ Some u →
    IsScoped (n + by) m t → IsScoped n m u
scoped_by true n m by t u is e scoped = absurd (cc)
scoped_by false n m by t u is e scoped =
    let same : lower_of t by 0 ≡ u = cc in subst (IsScoped n m) same (lower_scoped (n + by) m n by 0 t refl (omega arith) scoped is)

pub lowered_scoped : (n m by : ℕ) (t u : Tree) → without_binders t by ≡ Some u → IsScoped (n + by) m t → IsScoped n m u
lowered_scoped n m by t u e scoped = scoped_by (has_bound t by 0) n m by t u refl e scoped

-- what a match finds for so many variables
pub found_by_match : (env : List Slot) (ctx : List Hyp) (count : ℕ) (values found : Values) (t : Tree) → values ≡ unset_values count →
    Finds env ctx 0 values (Some found) → IsScoped (length ctx) (length env) t →
    IsFoundFor env ctx count (Some (record { subterm = t; values = found }))
found_by_match env ctx count values found t e finds term =
    (record { subterm = term; values = finds.scoped }, finds.count ∙ ap (λ (vs : Values). length vs) e ∙ unset_count count)

-- What values do to a pattern: what they leave alone, and what stays in scope.
use Rattle.std.specs.Prelude.{if◌then◌else◌, nat_lt, ◌||◌, slice_get, slice_set}
use Rattle.std.proofs.Common.{◌≡◌, ℕ, zero, suc, ◌+◌, ◌-◌, ◌^◌, ◌<◌, ◌≤◌, List, [], ◌∷◌, ◌++◌, length, Bool, true, false, Option, Some, None, Ok, refl, sym, ap, subst, ◌∙◌, arith}
use Rattle.std.proofs.lemmas.Bool.{or_parts, or_from}
use Rattle.std.proofs.lemmas.List.{replicate-append-replicate}
use Rattle.std.proofs.lemmas.Bool.Decides.{nat_tests}
use Rattle.core_term.specs.Tree.{Tree, Var, Sorted, Constant, Prod, Lam, LetIn, App, size_of, depth_of, free_bound, IsTerm, IsNumbered}
use Rattle.core_term.specs.Places.{lift_of}
use Rattle.core_term.specs.Answers.{within_limits}
use Rattle.core_term.proofs.Bounds.{bounded-term, size-lifted, depth-lifted}
use Rattle.core_term.proofs.FreeVariables.{numbered}
use Rattle.cic_rules.specs.Scopes.{IsScoped, IsScopedIfAny}
use Rattle.cic_rules.proofs.ScopeLaws.{scoped_lift, scoped_free}
use Rattle.matching.specs.Patterns.{Values, unset_values, AreShallow, is_open, value_in, value_at, is_unset, has_unset, filled_variable, fill}
use Rattle.matching.specs.Scopes.{AreValues}

pub size_lifted : (t : Tree) (by from : ℕ) → size_of (lift_of t by from) ≡ size_of t
size_lifted t by from = size-lifted t by from

variable_settled : (values : Values) (i binders : ℕ) → i + 1 ≤ binders → has_unset values (Var i) binders ≡ false
variable_settled values i binders above = grind (arith, nat_tests)

-- a term without variables past the binders has no unset one, and is left alone
pub settled_above : (values : Values) (t : Tree) (binders : ℕ) → free_bound t ≤ binders → has_unset values t binders ≡ false
settled_above values (Var i) binders above = variable_settled values i binders above
settled_above values (Sorted s) binders above = refl
settled_above values (Constant c) binders above = refl
settled_above values (Prod n a b) binders above =
    or_from (has_unset values a binders) (has_unset values b (binders + 1)) (settled_above values a binders (omega arith)) (settled_above values b (binders + 1) (omega arith))
settled_above values (Lam n a b) binders above =
    or_from (has_unset values a binders) (has_unset values b (binders + 1)) (settled_above values a binders (omega arith)) (settled_above values b (binders + 1) (omega arith))
settled_above values (LetIn n a t b) binders above =
    or_from (has_unset values a binders) (has_unset values t binders || has_unset values b (binders + 1)) (settled_above values a binders (omega arith))
    (or_from (has_unset values t binders) (has_unset values b (binders + 1)) (settled_above values t binders (omega arith)) (settled_above values b (binders + 1) (omega arith)))
settled_above values (App f a) binders above =
    or_from (has_unset values f binders) (has_unset values a binders) (settled_above values f binders (omega arith)) (settled_above values a binders (omega arith))

variable_above : (values : Values) (i binders : ℕ) → i + 1 ≤ binders → fill values (Var i) binders ≡ Var i
variable_above values i binders above = grind (arith, nat_tests)

pub fill_above : (values : Values) (t : Tree) (binders : ℕ) → free_bound t ≤ binders → fill values t binders ≡ t
fill_above values (Var i) binders above = variable_above values i binders above
fill_above values (Sorted s) binders above = refl
fill_above values (Constant c) binders above = refl
fill_above values (Prod n a b) binders above = cc (fill_above values a binders (omega arith), fill_above values b (binders + 1) (omega arith))
fill_above values (Lam n a b) binders above = cc (fill_above values a binders (omega arith), fill_above values b (binders + 1) (omega arith))
fill_above values (LetIn n a t b) binders above =
    cc (fill_above values a binders (omega arith), fill_above values t binders (omega arith), fill_above values b (binders + 1) (omega arith))
fill_above values (App f a) binders above = cc (fill_above values f binders (omega arith), fill_above values a binders (omega arith))

pub limits_above : (values : Values) (t : Tree) (binders : ℕ) → IsTerm t → free_bound t ≤ binders → Ok t ≡ within_limits (fill values t binders)
limits_above values t binders is above = sym (ap within_limits (fill_above values t binders above) ∙ bounded-term t is)

-- what is filled is in scope
none_there : (values : Values) (at : ℕ) → is_open (slice_get values at) ≡ false → value_at values at ≡ None → length values ≤ at
none_there [] at settled none = omega arith
none_there (None ∷ values) zero settled none = cc
none_there (Some v ∷ values) zero settled none = cc
none_there (v ∷ values) (suc at) settled none = let rest = none_there values at settled none in omega (arith, rest)

value_scoped : (n m at : ℕ) (values : Values) (v : Tree) → AreValues n m values → value_at values at ≡ Some v → IsScoped n m v
value_scoped n m at [] v all e = cc
value_scoped n m zero (None ∷ values) v all e = cc
value_scoped n m zero (Some w ∷ values) v all e = let same : w ≡ v = cc in subst (λ t. IsScoped n m t) same all.0
value_scoped n m (suc at) (w ∷ values) v all e = value_scoped n m at values v all.1 e

found_scoped : (n m k q binders i : ℕ) (values : Values) (found : Option Tree) → value_at values (i - binders) ≡ found → k ≡ q + length values →
    q ≡ n + binders → i < k → binders ≤ i → is_open (slice_get values (i - binders)) ≡ false → AreValues n m values →
    IsScoped q m (filled_variable found i (length values) binders)
found_scoped n m k q binders i values None is e f h above settled all =
    let beyond = none_there values (i - binders) settled is in omega (arith, e, f, h, above, beyond)
found_scoped n m k q binders i values (Some v) is e f h above settled all =
    scoped_lift n q m binders 0 v f (value_scoped n m (i - binders) values v all is)

variable_scoped : (b : Bool) (n m k q binders i : ℕ) (values : Values) → nat_lt i binders ≡ b → k ≡ q + length values → q ≡ n + binders → i < k →
    (if b then false else is_open (slice_get values (i - binders))) ≡ false → AreValues n m values →
    IsScoped q m (if b then Var i else filled_variable (value_at values (i - binders)) i (length values) binders)
variable_scoped true n m k q binders i values is e f h settled all = let low : i < binders = grind (arith, nat_tests, is) in omega (arith, low, f)
variable_scoped false n m k q binders i values is e f h settled all =
    let above : binders ≤ i = grind (arith, nat_tests, is) in
    found_scoped n m k q binders i values (value_at values (i - binders)) refl e f h above settled all

pub fill_scoped : (n m k q binders : ℕ) (values : Values) (t : Tree) → k ≡ q + length values → q ≡ n + binders → IsScoped k m t → AreValues n m values →
    has_unset values t binders ≡ false → IsScoped q m (fill values t binders)
fill_scoped n m k q binders values (Var i) e f h all settled = variable_scoped (nat_lt i binders) n m k q binders i values refl e f h settled all
fill_scoped n m k q binders values (Sorted s) e f h all settled = tt
fill_scoped n m k q binders values (Constant c) e f h all settled = h
fill_scoped n m k q binders values (Prod x a b) e f h all settled =
    let parts = or_parts (has_unset values a binders) (has_unset values b (binders + 1)) settled in (
      fill_scoped n m k q binders values a e f h.0 all parts.0,
      fill_scoped n m (suc k) (suc q) (binders + 1) values b (omega (arith, e)) (omega (arith, f)) h.1 all parts.1,
    )
fill_scoped n m k q binders values (Lam x a b) e f h all settled =
    let parts = or_parts (has_unset values a binders) (has_unset values b (binders + 1)) settled in (
      fill_scoped n m k q binders values a e f h.0 all parts.0,
      fill_scoped n m (suc k) (suc q) (binders + 1) values b (omega (arith, e)) (omega (arith, f)) h.1 all parts.1,
    )
fill_scoped n m k q binders values (LetIn x a t b) e f h all settled =
    let parts = or_parts (has_unset values a binders) (has_unset values t binders || has_unset values b (binders + 1)) settled in
    let more = or_parts (has_unset values t binders) (has_unset values b (binders + 1)) parts.1 in (
      fill_scoped n m k q binders values a e f h.0 all parts.0,
      fill_scoped n m k q binders values t e f h.1 all more.0,
      fill_scoped n m (suc k) (suc q) (binders + 1) values b (omega (arith, e)) (omega (arith, f)) h.2 all more.1,
    )
fill_scoped n m k q binders values (App g a) e f h all settled =
    let parts = or_parts (has_unset values g binders) (has_unset values a binders) settled in
    (fill_scoped n m k q binders values g e f h.0 all parts.0, fill_scoped n m k q binders values a e f h.1 all parts.1)

-- so many variables, all unset, and one more
pub one_more : (n : ℕ) → unset_values n ++ None ∷ [] ≡ unset_values (n + 1)
one_more n = replicate-append-replicate n 1 None

-- no value is deeper than a term may be
pub shallow_unset : (n : ℕ) → AreShallow (unset_values n)
shallow_unset zero = tt
shallow_unset (suc n) = (tt, shallow_unset n)

pub shallow_set : (values : Values) (at : ℕ) (t : Tree) → AreShallow values → IsTerm t → AreShallow (slice_set values at (Some t))
shallow_set [] at t all is = tt
shallow_set (v ∷ values) zero t all is = (is.shallow, all.1)
shallow_set (v ∷ values) (suc at) t all is = (all.0, shallow_set values at t all.1 is)

-- What stands in scope: patterns, and the values of their variables.
use Rattle.std.specs.Prelude.{◌≡◌, ℕ, suc, ◌+◌, ◌-◌, ◌≤◌, List, [], ◌∷◌, length, Option, Some, None, Result, Ok, Err, if◌then◌else◌}
use Rattle.base_core.specs.declared.refusals.Stop.{Stop}
use Rattle.base_core.specs.declared.refusals.Stop.TheVariants.{Out}
use Rattle.base_core.specs.declared.refusals.Limit.TheVariants.{SizeLimit}
use Rattle.core_term.specs.Tree.{Tree, is_small}
use Rattle.cic_rules.specs.declared.context.Hyp.{Hyp}
use Rattle.cic_rules.specs.declared.env.Slot.{Slot}
use Rattle.cic_rules.specs.Fuel.{FuelState, left, calls_left}
use Rattle.cic_rules.specs.Runs.{Ran, ◌>>◌, spend}
use Rattle.cic_rules.specs.Scopes.{IsScoped, IsScopedIfAny, IsScopedHyp}
use Rattle.matching.specs.Patterns.{Values}
use Rattle.matching.specs.Match.{match_under, match_pair, match_binder, match_let, match_nodes, match_filled, match_inside, match_at}

-- each value that is set has so many variables and globals to speak of
abbrev pub AreValues : ℕ → ℕ → Values → Type 0
AreValues vars globals [] = Unit {0}
AreValues vars globals (v ∷ values) = IsScopedIfAny vars globals v × AreValues vars globals values

-- a pattern under so many binders of a context: it may speak of the context and of its own variables, whose values stand
-- outside of the binders
pub record IsPatternIn (env : List Slot) (ctx : List Hyp) (binders : ℕ) (values : Values) (p : Tree) : Type 0 where
  pub within : binders ≤ length ctx
  pub pattern : IsScoped (length ctx + length values) (length env) p
  pub found : AreValues (length ctx - binders) (length env) values

-- what is found is in scope too, with as many variables, if anything is
pub record IsFoundIn (env : List Slot) (ctx : List Hyp) (binders : ℕ) (values found : Values) : Type 0 where
  pub count : length found ≡ length values
  pub scoped : AreValues (length ctx - binders) (length env) found

-- two terms stand behind a hypothesis: a pattern, and a term
pub record IsBinderIn (env : List Slot) (ctx : List Hyp) (values : Values) (h : Hyp) (q u : Tree) : Type 0 where
  pub hyp : IsScopedHyp (length ctx) (length env) h
  pub pattern : IsScoped (suc (length ctx + length values)) (length env) q
  pub term : IsScoped (suc (length ctx)) (length env) u

-- a match on some fuel: with its units, and so many more judgements in one another
abbrev pub match_with : List Slot → List Hyp → ℕ → Tree → Tree → Values → FuelState → Ran (Option Values)
match_with env ctx binders p t values f = match_at env (calls_left f) ctx binders p t values (left f)

-- one that was begun takes its unit first
abbrev pub begun_with : List Slot → List Hyp → ℕ → Tree → Tree → Values → FuelState → Ran (Option Values)
begun_with env ctx binders p t values f =
    (spend 1 >> match_inside env (calls_left f) (match_at env (calls_left f)) ctx binders p t values) (left f)

abbrev pub inside_with : List Slot → List Hyp → ℕ → Tree → Tree → Values → FuelState → Ran (Option Values)
inside_with env ctx binders p t values f = match_inside env (calls_left f) (match_at env (calls_left f)) ctx binders p t values (left f)

abbrev pub filled_with : List Slot → List Hyp → Tree → Tree → Values → FuelState → Ran (Option Values)
filled_with env ctx p t values f = match_filled env (calls_left f) ctx p t values (left f)

abbrev pub nodes_with : List Slot → List Hyp → ℕ → Tree → Tree → Values → FuelState → Ran (Option Values)
nodes_with env ctx binders p t values f = match_nodes (match_at env (calls_left f)) ctx binders p t values (left f)

abbrev pub binder_with : List Slot → List Hyp → Hyp → ℕ → Tree → Tree → Tree → Tree → Values → FuelState → Ran (Option Values)
binder_with env ctx h binders p t q u values f = match_binder (match_at env (calls_left f)) ctx h binders p t q u values (left f)

abbrev pub under_with : List Slot → List Hyp → Hyp → ℕ → Tree → Tree → Values → FuelState → Ran (Option Values)
under_with env ctx h binders q u values f = match_under (match_at env (calls_left f)) ctx h binders q u values (left f)

abbrev pub pair_with : List Slot → List Hyp → ℕ → Tree → Tree → Tree → Tree → Values → FuelState → Ran (Option Values)
pair_with env ctx binders p t q u values f = match_pair (match_at env (calls_left f)) ctx binders p t q u values (left f)

abbrev pub let_with : List Slot → List Hyp → Hyp → ℕ → Tree → Tree → Tree → Tree → Tree → Tree → Values → FuelState → Ran (Option Values)
let_with env ctx h binders p t v w q u values f = match_let (match_at env (calls_left f)) ctx h binders p t v w q u values (left f)

-- a term that is not too large
abbrev pub sized : Tree → Result Tree Stop
sized t = if is_small t then Ok t else Err (Out SizeLimit)

-- what a match finds, if it finds anything
abbrev pub Finds : List Slot → List Hyp → ℕ → Values → Option Values → Type 0
Finds env ctx binders values None = Unit {0}
Finds env ctx binders values (Some found) = IsFoundIn env ctx binders values found

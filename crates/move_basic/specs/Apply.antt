-- A term applied to arguments, of which some are found by matching its type and the others become goals.
use Rattle.std.specs.Prelude.{ℕ, ◌+◌, ◌-◌, ◌==◌, nat_lt, List, length, Bool, false, ◌||◌, Option, Some, None, if◌then◌else◌}
use Rattle.base_core.specs.declared.refusal_codes.TheConstants.{NOT_DETERMINED, NO_MATCH}
use Rattle.core_term.specs.Tree.{Tree, Prod}
use Rattle.core_term.specs.Places.{lift_of, occurrences}
use Rattle.cic_rules.specs.declared.context.Hyp.{Hyp}
use Rattle.cic_rules.specs.declared.env.Slot.{Slot}
use Rattle.cic_rules.specs.Infer.{infer_at, check_at}
use Rattle.cic_rules.specs.Runs.{Run, ◌>>=◌, ◌>>◌, pure, refuse, forbid, check_size}
use Rattle.matching.specs.Patterns.{Values, unset_values, value_at, has_unset, fill}
use Rattle.matching.specs.Match.{match_at}
use Rattle.proof_state.specs.declared.goals.Goal.{Goal}
use Rattle.proof_state.specs.Partial.{Partial, Ready, Applies}
use Rattle.move_basic.specs.Intro.{hole}

-- one of the next domains, so many, speaks of the variable at a place
abbrev pub is_used_later : ℕ → Tree → ℕ → Bool
is_used_later count (Prod n a b) at = if count == 0 then false else (nat_lt 0 (occurrences a at) || is_used_later (count - 1) b (at + 1))
is_used_later count _ at = false

-- values that were found, or what else is tried
abbrev pub or_else : Option Values → Run Values → Run Values
or_else None rest = rest
or_else (Some values) rest = pure values

module _ (env : List Slot) (calls : ℕ) where
  -- a type behind so many products against the goal's
  abbrev pub matched : List Hyp → Tree → ℕ → Tree → Run (Option Values)
  matched ctx ty count t = match_at env calls ctx 0 t ty (unset_values count)

  -- the last one against the goal's type
  abbrev pub last_match : List Hyp → Tree → ℕ → Tree → Run Values
  last_match ctx ty count t = do
    found ← matched ctx ty count t
    or_else found (refuse NO_MATCH)

  -- the values of the first that matches: this one, which stands behind so many products, or one behind more of them
  abbrev pub first_match : List Hyp → Tree → ℕ → Tree → Run Values
  first_match ctx ty count (Prod n a b) = do
    found ← matched ctx ty count (Prod n a b)
    or_else found (first_match ctx ty (count + 1) b)
  first_match ctx ty count t = last_match ctx ty count t

  -- the values with all products taken off
  abbrev pub match_at_end : List Hyp → Tree → ℕ → Tree → Run Values
  match_at_end ctx ty count (Prod n a b) = match_at_end ctx ty (count + 1) b
  match_at_end ctx ty count t = last_match ctx ty count t

  -- an argument of this type: its value is checked; one that is unset and not used later becomes a goal
  abbrev pub argument_by : List Hyp → Tree → Bool → Option Tree → Run (Partial Goal)
  argument_by ctx a used None = do
    forbid used NOT_DETERMINED
    check_size a
    pure (hole ctx a)
  argument_by ctx a used (Some v) = do
    check_size a
    _ ← check_at env calls ctx v a
    pure (Ready v)

  -- the argument for a product's variable, which with those behind it makes so many, by its type as it stands behind all of them. No unset
  -- variable stands in it, since one that is used later is refused before
  abbrev pub argument : List Hyp → Values → ℕ → Tree → Bool → Run (Partial Goal)
  argument ctx values count a used = do
    forbid (has_unset values (lift_of a count 0) 0) NOT_DETERMINED
    argument_by ctx (fill values (lift_of a count 0) 0) used (value_at values (count - 1))

  -- a function of this type with its arguments, of which so many are left
  abbrev pub with_arguments : List Hyp → Values → ℕ → Tree → Partial Goal → Run (Partial Goal)
  with_arguments ctx values count (Prod n a b) function =
      if count == 0 then pure function
      else (do
        x ← argument ctx values count a (is_used_later (count - 1) b 0)
        with_arguments ctx values (count - 1) b (Applies function x))
  with_arguments ctx values count _ function = pure function

  -- `apply`
  abbrev pub apply : List Hyp → Tree → Tree → Run (Partial Goal)
  apply ctx ty t = do
    i ← infer_at env calls ctx t
    values ← first_match ctx ty 0 i.ty
    with_arguments ctx values (length values) i.ty (Ready t)

  -- the same with all of the term's arguments
  abbrev pub apply_to_all : List Hyp → Tree → Tree → Run (Partial Goal)
  apply_to_all ctx ty t = do
    i ← infer_at env calls ctx t
    values ← match_at_end ctx ty 0 i.ty
    with_arguments ctx values (length values) i.ty (Ready t)

-- Rows that calls of their own answer, on some fuel: with its units, and with so many more judgements in one another.
use Rattle.std.specs.Prelude.{ℕ, ◌-◌, List, Bool, Option, None, Some}
use Rattle.coq_syntax.specs.declared.words.Word.{Word}
use Rattle.coq_syntax.specs.MoveTrees.{Move}
use Rattle.coq_syntax.specs.Trees.{Term}
use Rattle.core_term.specs.Tree.{Tree}
use Rattle.cic_rules.specs.declared.context.Hyp.{Hyp}
use Rattle.cic_rules.specs.declared.env.Slot.{Slot}
use Rattle.cic_rules.specs.Fuel.{FuelState, left, calls_left}
use Rattle.cic_rules.specs.Runs.{Ran, Run, ◌>>=◌, pure}
use Rattle.matching.specs.Patterns.{Values}
use Rattle.proof_state.specs.declared.goals.Goal.{Goal}
use Rattle.proof_state.specs.declared.state.Filling.{Filling}
use Rattle.proof_state.specs.Partial.{Partial, Applies}
use Rattle.move_basic.specs.declared.equality.Equation.{Equation}
use Rattle.move_basic.specs.declared.opening.Opening.{Opening}
use Rattle.move_basic.specs.Intro.{opened, intro, intros_named, intros_all, intros, entered, hole}
use Rattle.move_basic.specs.Terms.{exact, tried, assumed, assumption}
use Rattle.move_basic.specs.Apply.{matched, last_match, first_match, match_at_end, argument_by, argument, with_arguments, is_used_later, apply, apply_to_all}
use Rattle.move_basic.specs.Constructors.{construct}
use Rattle.move_basic.specs.Equality.{by_sides, reflexivity}
use Rattle.move_basic.specs.Moves.{by_exact, by_apply, run_basic}

module _ (env : List Slot) (ctx : List Hyp) (ty : Tree) where
  abbrev pub opened_with : FuelState → Ran Opening
  opened_with f = opened env (calls_left f) ctx ty (left f)

  abbrev pub intro_with : Option Word → FuelState → Ran (Partial Goal)
  intro_with w f = intro env (calls_left f) w ctx ty (left f)

  abbrev pub named_with : List Word → FuelState → Ran (Partial Goal)
  named_with ws f = intros_named env (calls_left f) ws ctx ty (left f)

  abbrev pub intros_with : List Word → FuelState → Ran (Partial Goal)
  intros_with ws f = intros env (calls_left f) ws ctx ty (left f)

  abbrev pub exact_with : Tree → FuelState → Ran (Partial Goal)
  exact_with t f = exact env (calls_left f) ctx ty t (left f)

  abbrev pub tried_with : ℕ → Hyp → FuelState → Ran Bool
  tried_with i h f = tried env (calls_left f) ctx ty i h (left f)

  abbrev pub assumed_with : ℕ → List Hyp → FuelState → Ran (Partial Goal)
  assumed_with i hs f = assumed env (calls_left f) ctx ty i hs (left f)

  abbrev pub assumption_with : FuelState → Ran (Partial Goal)
  assumption_with f = assumption env (calls_left f) ctx ty (left f)

  abbrev pub first_match_with : ℕ → Tree → FuelState → Ran Values
  first_match_with count t f = first_match env (calls_left f) ctx ty count t (left f)

  abbrev pub matched_with : ℕ → Tree → FuelState → Ran (Option Values)
  matched_with count t f = matched env (calls_left f) ctx ty count t (left f)

  abbrev pub last_match_with : ℕ → Tree → FuelState → Ran Values
  last_match_with count t f = last_match env (calls_left f) ctx ty count t (left f)

  abbrev pub match_at_end_with : ℕ → Tree → FuelState → Ran Values
  match_at_end_with count t f = match_at_end env (calls_left f) ctx ty count t (left f)

  abbrev pub apply_with : Tree → FuelState → Ran (Partial Goal)
  apply_with t f = apply env (calls_left f) ctx ty t (left f)

  abbrev pub apply_to_all_with : Tree → FuelState → Ran (Partial Goal)
  apply_to_all_with t f = apply_to_all env (calls_left f) ctx ty t (left f)

  abbrev pub construct_with : ℕ → ℕ → ℕ → FuelState → Ran (Partial Goal)
  construct_with count index code f = construct env (calls_left f) count index code ctx ty (left f)

  abbrev pub reflexivity_with : FuelState → Ran (Partial Goal)
  reflexivity_with f = reflexivity env (calls_left f) ctx ty (left f)

-- the goal behind a binder
abbrev pub one_binder : List Slot → List Hyp → Option Word → Opening → Run (Partial Goal)
one_binder env ctx w o = entered env ctx w o.hyp (λ inner. pure (hole inner o.under))

-- the goal behind a binder of this name, and then behind those of more names
abbrev pub named_behind : List Slot → List Hyp → Word → Opening → List Word → FuelState → Ran (Partial Goal)
named_behind env ctx w o ws f = entered env ctx (Some w) o.hyp (λ inner. intros_named env (calls_left f) ws inner o.under) (left f)

-- a type behind a hypothesis that has no name yet, whose binders get their names
abbrev pub entered_all : List Slot → List Hyp → Hyp → Tree → Run (Partial Goal)
entered_all env ctx h under = entered env ctx None h (λ inner. intros_all env inner under)

abbrev pub by_sides_with : List Slot → List Hyp → Equation → FuelState → Ran (Partial Goal)
by_sides_with env ctx e f = by_sides env (calls_left f) ctx e (left f)

-- an argument of this type, and one for a product's variable
abbrev pub argument_by_with : List Slot → List Hyp → Tree → Bool → Option Tree → FuelState → Ran (Partial Goal)
argument_by_with env ctx a used v f = argument_by env (calls_left f) ctx a used v (left f)

abbrev pub argument_with : List Slot → List Hyp → Values → ℕ → Tree → Bool → FuelState → Ran (Partial Goal)
argument_with env ctx values count a used f = argument env (calls_left f) ctx values count a used (left f)

abbrev pub arguments_with : List Slot → List Hyp → Values → ℕ → Tree → Partial Goal → FuelState → Ran (Partial Goal)
arguments_with env ctx values count ty function f = with_arguments env (calls_left f) ctx values count ty function (left f)

-- the argument for a product's variable, and then those behind it
abbrev pub next_argument : List Slot → ℕ → List Hyp → Values → ℕ → Tree → Tree → Partial Goal → Run (Partial Goal)
next_argument env calls ctx values count a b function = do
  x ← argument env calls ctx values count a (is_used_later (count - 1) b 0)
  with_arguments env calls ctx values (count - 1) b (Applies function x)

abbrev pub next_argument_with : List Slot → List Hyp → Values → ℕ → Tree → Tree → Partial Goal → FuelState → Ran (Partial Goal)
next_argument_with env ctx values count a b function f = next_argument env (calls_left f) ctx values count a b function (left f)

-- a written term that is given for a goal, or applied to it
abbrev pub by_exact_with : List Slot → Goal → Term → FuelState → Ran Filling
by_exact_with env g s f = by_exact env (calls_left f) g s (left f)

abbrev pub by_apply_with : List Slot → Goal → Term → FuelState → Ran Filling
by_apply_with env g s f = by_apply env (calls_left f) g s (left f)

abbrev pub basic_with : List Slot → Goal → Move → FuelState → Ran Filling
basic_with env g m f = run_basic env (calls_left f) g m (left f)

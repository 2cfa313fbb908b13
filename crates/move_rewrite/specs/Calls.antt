-- Rows that calls of their own answer, on some fuel: with its units, and with so many more judgements in one another.
use Rattle.std.specs.Prelude.{ℕ, List, Option}
use Rattle.coq_syntax.specs.declared.moves.Direction.{Direction}
use Rattle.coq_syntax.specs.MoveTrees.{Move}
use Rattle.coq_syntax.specs.Trees.{Term}
use Rattle.core_term.specs.Tree.{Tree}
use Rattle.cic_rules.specs.declared.context.Hyp.{Hyp}
use Rattle.cic_rules.specs.declared.env.Slot.{Slot}
use Rattle.cic_rules.specs.Fuel.{FuelState, left, calls_left}
use Rattle.cic_rules.specs.Runs.{Ran, Run, ◌>>=◌}
use Rattle.matching.specs.Patterns.{Values}
use Rattle.proof_state.specs.declared.goals.Goal.{Goal}
use Rattle.proof_state.specs.declared.state.Filling.{Filling}
use Rattle.proof_state.specs.Partial.{Partial, Ready}
use Rattle.move_rewrite.specs.declared.equations.Equation.{Equation}
use Rattle.move_rewrite.specs.declared.searching.Found.{Found}
use Rattle.move_rewrite.specs.Arguments.{with_arguments}
use Rattle.move_rewrite.specs.Moves.{by_rewrite, run_rewrite}
use Rattle.move_rewrite.specs.Rewrite.{by_proof, by_equation, rewrite}
use Rattle.move_rewrite.specs.Search.{matched, tried, first_found}

-- what follows a subterm that was found
abbrev pub by_found : List Slot → ℕ → Direction → List Hyp → Tree → Tree → Tree → ℕ → Equation → Found → Run (Partial Goal)
by_found env calls d ctx goal t ty count e x = do
  proof ← with_arguments env calls ctx x.values count ty (Ready t)
  by_proof env calls d ctx goal e x proof

module _ (env : List Slot) (ctx : List Hyp) where
  abbrev pub matched_with : ℕ → Tree → Option Tree → FuelState → Ran (Option Found)
  matched_with count pattern t f = matched env (calls_left f) ctx count pattern t (left f)

  abbrev pub tried_with : ℕ → Tree → ℕ → Tree → FuelState → Ran (Option Found)
  tried_with count pattern binders t f = tried env (calls_left f) ctx count pattern binders t (left f)

  abbrev pub first_found_with : ℕ → Tree → ℕ → Tree → FuelState → Ran (Option Found)
  first_found_with count pattern binders t f = first_found env (calls_left f) ctx count pattern binders t (left f)

  abbrev pub arguments_with : Values → ℕ → Tree → Partial Goal → FuelState → Ran (Partial Goal)
  arguments_with values count ty function f = with_arguments env (calls_left f) ctx values count ty function (left f)

  abbrev pub by_proof_with : Direction → Tree → Equation → Found → Partial Goal → FuelState → Ran (Partial Goal)
  by_proof_with d goal e x proof f = by_proof env (calls_left f) d ctx goal e x proof (left f)

  abbrev pub by_found_with : Direction → Tree → Tree → Tree → ℕ → Equation → Found → FuelState → Ran (Partial Goal)
  by_found_with d goal t ty count e x f = by_found env (calls_left f) d ctx goal t ty count e x (left f)

  abbrev pub by_equation_with : Direction → Tree → Tree → Tree → ℕ → Equation → FuelState → Ran (Partial Goal)
  by_equation_with d goal t ty count e f = by_equation env (calls_left f) d ctx goal t ty count e (left f)

  abbrev pub rewrite_with : Direction → Tree → Tree → FuelState → Ran (Partial Goal)
  rewrite_with d goal t f = rewrite env (calls_left f) d ctx goal t (left f)

abbrev pub by_rewrite_with : List Slot → Goal → Direction → Term → FuelState → Ran Filling
by_rewrite_with env g d s f = by_rewrite env (calls_left f) g d s (left f)

abbrev pub run_rewrite_with : List Slot → Goal → Move → FuelState → Ran Filling
run_rewrite_with env g m f = run_rewrite env (calls_left f) g m (left f)

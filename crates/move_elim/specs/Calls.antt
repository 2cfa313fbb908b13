-- Rows that calls of their own answer, on some fuel: with its units, and with so many more judgements in one another.
use Rattle.std.specs.Prelude.{ℕ, List, Bool, true, Option, Result, Ok, Err}
use Rattle.base_core.specs.declared.refusals.Stop.{Stop}
use Rattle.coq_syntax.specs.MoveTrees.{Move, Pattern}
use Rattle.core_term.specs.Tree.{Tree}
use Rattle.cic_rules.specs.declared.context.Hyp.{Hyp}
use Rattle.cic_rules.specs.declared.env.Slot.{Slot}
use Rattle.cic_rules.specs.Fuel.{FuelState, left, calls_left}
use Rattle.cic_rules.specs.Infer.{sort_of_at}
use Rattle.cic_rules.specs.Reduce.{whnf_at}
use Rattle.cic_rules.specs.Runs.{Run, Ran, ◌>>=◌}
use Rattle.cic_rules.specs.Steps.{take_step}
use Rattle.proof_state.specs.declared.goals.Goal.{Goal}
use Rattle.proof_state.specs.declared.state.Filling.{Filling}
use Rattle.proof_state.specs.declared.state.Filling.TheVariants.{Give}
use Rattle.proof_state.specs.Partial.{Partial}
use Rattle.move_elim.specs.Elimination.{elimination}
use Rattle.move_elim.specs.Moves.{eliminate, run_elim}
use Rattle.move_elim.specs.Subjects.{subject_of}

-- the hypothesis at a place, whose type is reduced to this one
abbrev pub eliminate_reduced : List Slot → ℕ → Bool → List Hyp → Tree → ℕ → Tree → Option Pattern → Run (Partial Goal)
eliminate_reduced env calls induction ctx goal i reduced pattern = do
  x ← take_step (subject_of env ctx i reduced)
  s ← sort_of_at env calls ctx goal
  take_step (elimination induction env ctx goal x pattern s.sort)

-- .. whose type is this one
abbrev pub eliminate_at : List Slot → ℕ → Bool → List Hyp → Tree → ℕ → Tree → Option Pattern → Run (Partial Goal)
eliminate_at env calls induction ctx goal i ty pattern = do
  reduced ← whnf_at env true calls ctx ty
  eliminate_reduced env calls induction ctx goal i reduced pattern

abbrev pub eliminate_reduced_with : List Slot → Bool → List Hyp → Tree → ℕ → Tree → Option Pattern → FuelState → Ran (Partial Goal)
eliminate_reduced_with env induction ctx goal i reduced pattern f = eliminate_reduced env (calls_left f) induction ctx goal i reduced pattern (left f)

abbrev pub eliminate_at_with : List Slot → Bool → List Hyp → Tree → ℕ → Tree → Option Pattern → FuelState → Ran (Partial Goal)
eliminate_at_with env induction ctx goal i ty pattern f = eliminate_at env (calls_left f) induction ctx goal i ty pattern (left f)

abbrev pub eliminate_with : List Slot → Bool → List Hyp → Tree → List ℕ → Option Pattern → FuelState → Ran (Partial Goal)
eliminate_with env induction ctx goal name pattern f = eliminate env (calls_left f) induction ctx goal name pattern (left f)

abbrev pub elim_with : List Slot → Goal → Move → FuelState → Ran Filling
elim_with env g m f = run_elim env (calls_left f) g m (left f)

-- what is given for a goal, where a sketch is found
abbrev pub given_for : Result (Partial Goal) Stop → Result Filling Stop
given_for (Ok s) = Ok (Give s)
given_for (Err stop) = Err stop

-- `simpl` and `unfold`: what each does with a goal, for which units, and when it is refused.
use Rattle.std.specs.Prelude.{ℕ, List}
use Rattle.base_core.specs.declared.refusal_codes.TheConstants.{NOT_BUILT}
use Rattle.coq_syntax.specs.MoveTrees.{Move, Simpl, Unfold}
use Rattle.core_term.specs.Tree.{Tree}
use Rattle.cic_rules.specs.declared.env.Slot.{Slot}
use Rattle.cic_rules.specs.Runs.{Run, ◌>>=◌, pure, refuse}
use Rattle.cic_rules.specs.Steps.{take_step}
use Rattle.proof_state.specs.declared.goals.Goal.{Goal}
use Rattle.proof_state.specs.declared.state.Filling.{Filling}
use Rattle.proof_state.specs.declared.state.Filling.TheVariants.{Give}
use Rattle.proof_state.specs.Partial.{Hole}
use Rattle.move_compute.specs.Simpl.{simpl_at}
use Rattle.move_compute.specs.Unfold.{unfold_in}

-- the goal with another type in its place
abbrev pub goal_becomes : Goal → Run Tree → Run Filling
goal_becomes g run = do
  t ← run
  pure (Give (Hole (record { ctx = g.ctx; ty = t })))

abbrev pub by_simpl : List Slot → ℕ → Goal → Run Filling
by_simpl env calls g = goal_becomes g (simpl_at env calls g.ty)

abbrev pub by_unfold : List Slot → Goal → List ℕ → Run Filling
by_unfold env g name = goal_becomes g (take_step (unfold_in env name g.ty))

-- a move of another kind is refused
abbrev pub run_compute : List Slot → ℕ → Goal → Move → Run Filling
run_compute env calls g (Simpl p) = by_simpl env calls g
run_compute env calls g (Unfold p w) = by_unfold env g w.text
run_compute env calls g _ = refuse NOT_BUILT

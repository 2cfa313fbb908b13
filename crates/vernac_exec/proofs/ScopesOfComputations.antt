-- What `simpl` and `unfold` give is in scope of the goal.
use Rattle.std.proofs.Common.{◌≡◌, ℕ, List, length, Result, Ok, Err, refl}
use Rattle.base_core.specs.Answers.{Gives}
use Rattle.base_core.specs.declared.refusals.Stop.{Stop}
use Rattle.core_term.specs.Tree.{Tree}
use Rattle.cic_rules.specs.declared.context.Hyp.{Hyp}
use Rattle.cic_rules.specs.declared.env.Slot.{Slot}
use Rattle.cic_rules.specs.Environments.{IsEnvironment}
use Rattle.cic_rules.specs.Judges.{IsTermIn}
use Rattle.cic_rules.specs.Laws.{Tells}
use Rattle.cic_rules.specs.Runs.{Run}
use Rattle.cic_rules.specs.Steps.{answer_of, take_step}
use Rattle.cic_rules.proofs.TellsLaws.{tells_give, tells_pure, tells_bind}
use Rattle.proof_state.specs.declared.goals.Goal.{Goal}
use Rattle.proof_state.specs.Scopes.{IsGoalIn, IsFillingIn}
use Rattle.move_compute.specs.Moves.{goal_becomes, by_simpl, by_unfold}
use Rattle.move_compute.specs.Unfold.{unfold_in}
use Rattle.move_compute.proofs.SimplScopes.{simpl_scoped}
use Rattle.move_compute.proofs.UnfoldScopes.{scoped_if_ok}

module _ (env : List Slot) where
  becomes_in : (g : Goal) (run : Run Tree) → IsGoalIn env g → Tells run (IsTermIn env g.ctx) → Tells (goal_becomes g run) (IsFillingIn env g.ctx)
  becomes_in g run goal terms = tells_bind terms (λ t scoped. tells_pure _ (refl, record { judged = goal.judged; ty = scoped }))

  -- what an answer gives is what it holds
  gives_by : (answer : Result Tree Stop) (t : Tree) → answer ≡ Ok t → Gives (Ok t) answer
  gives_by (Ok u) t e = cc
  gives_by (Err stop) t e = absurd (cc)

  module _ (is : IsEnvironment env) where
    unfold_tells : (ctx : List Hyp) (name : List ℕ) (goal : Tree) → IsTermIn env ctx goal → Tells (take_step (unfold_in env name goal)) (IsTermIn env ctx)
    unfold_tells ctx name goal scoped =
        tells_give (answer_of (unfold_in env name goal)) (λ t e.
        scoped_if_ok env ctx name goal (Ok t) is scoped (gives_by (answer_of (unfold_in env name goal)) t e))

    pub by_simpl_in : (calls : ℕ) (g : Goal) → IsGoalIn env g → Tells (by_simpl env calls g) (IsFillingIn env g.ctx)
    by_simpl_in calls g goal = becomes_in g _ goal (simpl_scoped env is calls (length g.ctx) g.ty goal.ty)

    pub by_unfold_in : (g : Goal) (name : List ℕ) → IsGoalIn env g → Tells (by_unfold env g name) (IsFillingIn env g.ctx)
    by_unfold_in g name goal = becomes_in g _ goal (unfold_tells g.ctx name g.ty goal.ty)

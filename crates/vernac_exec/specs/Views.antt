-- The goals of a proof under way, as they are shown.
use Rattle.std.specs.Prelude.{ℕ, List, [], ◌∷◌, ◌++◌, map, Option, Some, None, if◌then◌else◌}
use Rattle.prover_iface.specs.declared.goals.GoalView.{GoalView}
use Rattle.prover_iface.specs.declared.goals.GoalsView.{GoalsView}
use Rattle.prover_iface.specs.declared.goals.HypView.{HypView}
use Rattle.bullet_focus.specs.declared.levels.Level.{Level}
use Rattle.core_term.specs.Tree.{Tree}
use Rattle.cic_rules.specs.declared.context.Hyp.{Hyp}
use Rattle.cic_rules.specs.declared.env.Slot.{Slot}
use Rattle.cic_rules.specs.Eliminators.{same_name, WILDCARD}
use Rattle.proof_state.specs.declared.goals.Goal.{Goal}
use Rattle.proof_state.specs.Proof.{GoalStatus}
use Rattle.proof_state.specs.Steps.{goal_at}
use Rattle.term_print.specs.Show.{printed}
use Rattle.vernac_exec.specs.declared.state.OpenProof.{OpenProof}

abbrev pub printed_value : List Slot → List Hyp → Option Tree → Option (List ℕ)
printed_value env ctx None = None
printed_value env ctx (Some t) = Some (printed env ctx t)

-- a hypothesis behind these
abbrev pub hyp_view : List Slot → List Hyp → Hyp → HypView
hyp_view env ctx h = record { name = h.name; ty = printed env ctx h.ty; value = printed_value env ctx h.value }

-- one that was taken away isn't shown
abbrev pub with_hyp_view : List Slot → List Hyp → Hyp → List HypView → List HypView
with_hyp_view env ctx h views = if same_name h.name WILDCARD then views else views ++ hyp_view env ctx h ∷ []

-- hypotheses, the oldest first
abbrev pub hyp_views : List Slot → List Hyp → List HypView
hyp_views env [] = []
hyp_views env (h ∷ hs) = with_hyp_view env hs h (hyp_views env hs)

abbrev pub goal_view : List Slot → Goal → GoalView
goal_view env g = record { hyps = hyp_views env g.ctx; ty = printed env g.ctx g.ty }

abbrev pub with_goal_view : List Slot → Option Goal → List GoalView → List GoalView
with_goal_view env None views = views
with_goal_view env (Some g) views = goal_view env g ∷ views

-- the goals of these numbers
abbrev pub goal_views : List Slot → List GoalStatus → List ℕ → List GoalView
goal_views env goals [] = []
goal_views env goals (n ∷ ns) = with_goal_view env (goal_at goals n) (goal_views env goals ns)

-- those that wait in each level, the innermost first
abbrev pub level_views : List Slot → List GoalStatus → List Level → List (List GoalView)
level_views env goals levels = map (λ level. goal_views env goals level.waiting) levels

abbrev pub proof_view : List Slot → OpenProof → GoalsView
proof_view env o = record {
  goals = goal_views env o.proof.goals o.focus.goals;
  stack = level_views env o.proof.goals o.focus.levels;
  given_up = goal_views env o.proof.goals o.proof.given_up;
}

-- the goals of the proof under way, if there is one
abbrev pub goals_of : List Slot → Option OpenProof → Option GoalsView
goals_of env None = None
goals_of env (Some o) = Some (proof_view env o)

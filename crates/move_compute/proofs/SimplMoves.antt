-- A goal that is simplified stays in scope.
use Rattle.std.specs.Prelude.{ℕ, List, length, Ok}
use Rattle.std.proofs.Common.{sym}
use Rattle.core_term.specs.Tree.{Tree}
use Rattle.cic_rules.specs.declared.env.Slot.{Slot}
use Rattle.cic_rules.specs.Environments.{IsEnvironment}
use Rattle.cic_rules.specs.Fuel.{FuelState, left, calls_left}
use Rattle.cic_rules.specs.Judges.{Meets, IsTermIn}
use Rattle.proof_state.specs.declared.goals.Goal.{Goal}
use Rattle.proof_state.specs.Scopes.{IsGoalIn}
use Rattle.move_compute.specs.Calls.{simpl_with}
use Rattle.move_compute.proofs.SimplScopes.{simpl_scoped}

pub goal_simplified : (env : List Slot) (g : Goal) (ty : Tree) (k : ℕ) (f : FuelState) → IsEnvironment env → IsGoalIn env g →
    Meets (Ok ty) k (simpl_with env g.ty f) → IsTermIn env g.ctx ty
goal_simplified env g ty k f is goal met = (simpl_scoped env is (calls_left f) (length g.ctx) g.ty goal.ty).tells (left f) ty (sym met.0)

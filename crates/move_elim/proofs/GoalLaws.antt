-- What the moves need of the hypothesis that is named, and what they give.
use Rattle.std.specs.Prelude.{◌≡◌, ℕ, ◌<◌, List, length, Some, Result, Ok, Err, IfOk}
use Rattle.std.proofs.Common.{sym}
use Rattle.base_core.specs.declared.refusals.Stop.{Stop}
use Rattle.coq_syntax.specs.MoveTrees.{Move}
use Rattle.core_term.specs.Tree.{Tree}
use Rattle.cic_rules.specs.declared.context.Hyp.{Hyp}
use Rattle.cic_rules.specs.declared.env.Slot.{Slot}
use Rattle.cic_rules.specs.Contexts.{type_of_variable}
use Rattle.cic_rules.specs.Environments.{IsEnvironment}
use Rattle.cic_rules.specs.Fuel.{FuelState, left, calls_left}
use Rattle.cic_rules.specs.Judges.{MayJudge, IsTermIn, Meets}
use Rattle.cic_rules.proofs.EnvironmentScopes.{variable_scoped, variable_within}
use Rattle.proof_state.specs.declared.goals.Goal.{Goal}
use Rattle.proof_state.specs.declared.state.Filling.{Filling}
use Rattle.proof_state.specs.Scopes.{IsGoalIn, IsFillingIn}
use Rattle.move_elim.specs.Calls.{elim_with}
use Rattle.move_elim.proofs.ScopesOfEliminations.{scope_of_eliminations}

pub type_scoped : (env : List Slot) (ctx : List Hyp) (i : ℕ) (ty : Tree) → MayJudge env ctx → Some ty ≡ type_of_variable ctx i → IsTermIn env ctx ty
type_scoped env ctx i ty judged e = variable_scoped (length env) ctx i ty judged.scoped (sym e)

pub is_there : (ctx : List Hyp) (i : ℕ) (ty : Tree) → Some ty ≡ type_of_variable ctx i → i < length ctx
is_there ctx i ty e = variable_within ctx i ty (sym e)

pub filling_told : (env : List Slot) (g : Goal) (m : Move) (f : FuelState) (result : Result Filling Stop) (k : ℕ) → IsEnvironment env → IsGoalIn env g →
    Meets result k (elim_with env g m f) → IfOk result (IsFillingIn env g.ctx)
filling_told env g m f (Ok x) k is goal meets = (scope_of_eliminations env is (calls_left f) g m goal).tells (left f) x (sym meets.0)
filling_told env g m f (Err stop) k is goal meets = tt

-- Laws of the definitions.
use Rattle.std.specs.Prelude.{ℕ, List}
use Rattle.coq_syntax.specs.MoveTrees.{Move}
use Rattle.cic_rules.specs.declared.env.Slot.{Slot}
use Rattle.cic_rules.specs.Environments.{IsEnvironment}
use Rattle.cic_rules.specs.Laws.{KeepsLawOfFuel, Tells}
use Rattle.proof_state.specs.declared.goals.Goal.{Goal}
use Rattle.proof_state.specs.Scopes.{IsGoalIn, IsFillingIn}
use Rattle.move_elim.specs.Moves.{run_elim}

-- a move under a lower limit
abbrev pub FuelOfEliminations : Type 0
FuelOfEliminations = (env : List Slot) (calls : ℕ) (g : Goal) (m : Move) → KeepsLawOfFuel (run_elim env calls g m)

-- what a move gives for a goal in scope is in scope, and each of its goals stands in the context of its hole, names aside
abbrev pub ScopeOfEliminations : Type 0
ScopeOfEliminations = (env : List Slot) → IsEnvironment env → (calls : ℕ) (g : Goal) (m : Move) → IsGoalIn env g →
    Tells (run_elim env calls g m) (IsFillingIn env g.ctx)

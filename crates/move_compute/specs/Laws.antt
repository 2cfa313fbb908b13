-- Laws of the definitions.
use Rattle.std.specs.Prelude.{ℕ, List}
use Rattle.coq_syntax.specs.MoveTrees.{Move}
use Rattle.cic_rules.specs.declared.env.Slot.{Slot}
use Rattle.cic_rules.specs.Laws.{KeepsLawOfFuel}
use Rattle.proof_state.specs.declared.goals.Goal.{Goal}
use Rattle.move_compute.specs.Moves.{run_compute}

-- a move under a lower limit
abbrev pub FuelOfComputations : Type 0
FuelOfComputations = (env : List Slot) (calls : ℕ) (g : Goal) (m : Move) → KeepsLawOfFuel (run_compute env calls g m)

-- Laws of the definitions.
use Rattle.std.specs.Prelude.{ℕ, List}
use Rattle.coq_syntax.specs.Trees.{Term, GroupList}
use Rattle.cic_rules.specs.declared.context.Hyp.{Hyp}
use Rattle.cic_rules.specs.declared.env.Slot.{Slot}
use Rattle.cic_rules.specs.Laws.{KeepsLawOfFuel}
use Rattle.elaborator.specs.Elab.{elab, open_groups}

abbrev pub FuelOfElaboration : Type 0
FuelOfElaboration = (env : List Slot) (calls : ℕ) (ctx : List Hyp) (s : Term) → KeepsLawOfFuel (elab env calls ctx s)

abbrev pub FuelOfGroups : Type 0
FuelOfGroups = (env : List Slot) (calls : ℕ) (ctx : List Hyp) (gs : GroupList) → KeepsLawOfFuel (open_groups env calls ctx gs)

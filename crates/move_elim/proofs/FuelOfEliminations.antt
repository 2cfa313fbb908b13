-- The law of fuel for each move.
use Rattle.std.specs.Prelude.{ℕ, List, Bool, true, false, Option}
use Rattle.coq_syntax.specs.MoveTrees.{Move, Pattern, Intro, Intros, Exact, Apply, Assumption, Split, Left, Right, Reflexivity, Simpl, Unfold, Destruct, Induction, Rewrite}
use Rattle.coq_syntax.specs.MoveTrees as move
use Rattle.core_term.specs.Tree.{Tree}
use Rattle.cic_rules.specs.declared.context.Hyp.{Hyp}
use Rattle.cic_rules.specs.declared.env.Slot.{Slot}
use Rattle.cic_rules.specs.Laws.{KeepsLawOfFuel}
use Rattle.cic_rules.specs.Runs.{Run}
use Rattle.cic_rules.proofs.FuelLaws.{law_pure, law_bind, law_refuse, fuel_laws}
use Rattle.cic_rules.proofs.JudgeFuelLaws.{fuel_of_reduction}
use Rattle.cic_rules.proofs.InferFuelLaws.{fuel_of_sorts}
use Rattle.proof_state.specs.declared.goals.Goal.{Goal}
use Rattle.proof_state.specs.declared.state.Filling.TheVariants.{Give}
use Rattle.proof_state.specs.Partial.{Partial}
use Rattle.move_elim.specs.Moves.{eliminate, solved}
use Rattle.move_elim.specs.Laws.{FuelOfEliminations}

law_eliminate : (env : List Slot) (calls : ℕ) (induction : Bool) (ctx : List Hyp) (goal : Tree) (name : List ℕ) (pattern : Option Pattern) →
    KeepsLawOfFuel (eliminate env calls induction ctx goal name pattern)
law_eliminate env calls induction ctx goal name pattern = search (fuel_laws, fuel_of_reduction, fuel_of_sorts) depth 14

law_solved : (env : List Slot) (calls : ℕ) (s : Run (Partial Goal)) → KeepsLawOfFuel s → KeepsLawOfFuel (solved env calls s)
law_solved env calls s law = law_bind law (λ x. law_pure (Give x))

pub fuel_of_eliminations : FuelOfEliminations
fuel_of_eliminations env calls g (Destruct p w pattern) = law_solved env calls _ (law_eliminate env calls false g.ctx g.ty w.text pattern)
fuel_of_eliminations env calls g (Induction p w pattern) = law_solved env calls _ (law_eliminate env calls true g.ctx g.ty w.text pattern)
fuel_of_eliminations env calls g (Intro p w) = law_refuse _
fuel_of_eliminations env calls g (Intros p ws) = law_refuse _
fuel_of_eliminations env calls g (Exact p s) = law_refuse _
fuel_of_eliminations env calls g (Apply p s) = law_refuse _
fuel_of_eliminations env calls g (Assumption p) = law_refuse _
fuel_of_eliminations env calls g (Split p) = law_refuse _
fuel_of_eliminations env calls g (Left p) = law_refuse _
fuel_of_eliminations env calls g (Right p) = law_refuse _
fuel_of_eliminations env calls g (Reflexivity p) = law_refuse _
fuel_of_eliminations env calls g (move.Admit p) = law_refuse _
fuel_of_eliminations env calls g (Simpl p) = law_refuse _
fuel_of_eliminations env calls g (Unfold p w) = law_refuse _
fuel_of_eliminations env calls g (Rewrite p d s) = law_refuse _

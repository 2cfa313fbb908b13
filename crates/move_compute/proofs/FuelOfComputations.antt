-- The law of fuel for each move.
use Rattle.coq_syntax.specs.MoveTrees.{Intro, Intros, Exact, Apply, Assumption, Split, Left, Right, Reflexivity, Simpl, Unfold, Destruct, Induction, Rewrite}
use Rattle.coq_syntax.specs.MoveTrees as move
use Rattle.core_term.specs.Tree.{Tree}
use Rattle.cic_rules.specs.Laws.{KeepsLawOfFuel}
use Rattle.cic_rules.specs.Runs.{Run}
use Rattle.cic_rules.proofs.FuelLaws.{law_pure, law_bind, law_refuse, law_take_step}
use Rattle.proof_state.specs.declared.goals.Goal.{Goal}
use Rattle.move_compute.specs.Laws.{FuelOfComputations}
use Rattle.move_compute.specs.Moves.{goal_becomes}
use Rattle.move_compute.proofs.FuelOfRows.{law_simpl}

law_becomes : (g : Goal) (run : Run Tree) → KeepsLawOfFuel run → KeepsLawOfFuel (goal_becomes g run)
law_becomes g run law = law_bind law (λ t. law_pure _)

pub fuel_of_computations : FuelOfComputations
fuel_of_computations env calls g (Simpl p) = law_becomes g _ (law_simpl env calls g.ty)
fuel_of_computations env calls g (Unfold p w) = law_becomes g _ (law_take_step _)
fuel_of_computations env calls g (Intro p w) = law_refuse _
fuel_of_computations env calls g (Intros p ws) = law_refuse _
fuel_of_computations env calls g (Exact p s) = law_refuse _
fuel_of_computations env calls g (Apply p s) = law_refuse _
fuel_of_computations env calls g (Assumption p) = law_refuse _
fuel_of_computations env calls g (Split p) = law_refuse _
fuel_of_computations env calls g (Left p) = law_refuse _
fuel_of_computations env calls g (Right p) = law_refuse _
fuel_of_computations env calls g (Reflexivity p) = law_refuse _
fuel_of_computations env calls g (move.Admit p) = law_refuse _
fuel_of_computations env calls g (Destruct p w pattern) = law_refuse _
fuel_of_computations env calls g (Induction p w pattern) = law_refuse _
fuel_of_computations env calls g (Rewrite p d s) = law_refuse _

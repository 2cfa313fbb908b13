-- The law of fuel for each move.
use Rattle.coq_syntax.specs.MoveTrees.{Intro, Intros, Exact, Apply, Assumption, Split, Left, Right, Reflexivity, Simpl, Unfold, Destruct, Induction, Rewrite}
use Rattle.coq_syntax.specs.MoveTrees as move
use Rattle.cic_rules.specs.Laws.{KeepsLawOfFuel}
use Rattle.cic_rules.specs.Runs.{Run}
use Rattle.cic_rules.proofs.FuelLaws.{law_pure, law_bind, law_refuse}
use Rattle.elaborator.proofs.FuelOfElab.{fuel_of_elaboration}
use Rattle.proof_state.specs.declared.goals.Goal.{Goal}
use Rattle.proof_state.specs.declared.state.Filling.TheVariants.{Give, Admit}
use Rattle.proof_state.specs.Partial.{Partial}
use Rattle.move_basic.specs.Moves.{solved}
use Rattle.move_basic.specs.Laws.{FuelOfMoves}
use Rattle.move_basic.proofs.FuelOfRows.{law_intro, law_intros, law_exact, law_assumption, law_apply, law_construct, law_reflexivity}

law_solved : (s : Run (Partial Goal)) → KeepsLawOfFuel s → KeepsLawOfFuel (solved s)
law_solved s law = law_bind law (λ x. law_pure (Give x))

pub fuel_of_moves : FuelOfMoves
fuel_of_moves env calls g (Intro p w) = law_solved _ (law_intro env calls w g.ctx g.ty)
fuel_of_moves env calls g (Intros p ws) = law_solved _ (law_intros env calls ws g.ctx g.ty)
fuel_of_moves env calls g (Exact p s) = law_bind (fuel_of_elaboration env calls g.ctx s) (λ t. law_solved _ (law_exact env calls g.ctx g.ty t))
fuel_of_moves env calls g (Apply p s) = law_bind (fuel_of_elaboration env calls g.ctx s) (λ t. law_solved _ (law_apply env calls g.ctx g.ty t))
fuel_of_moves env calls g (Assumption p) = law_solved _ (law_assumption env calls g.ctx g.ty)
fuel_of_moves env calls g (Split p) = law_solved _ (law_construct env calls 1 0 _ g.ctx g.ty)
fuel_of_moves env calls g (Left p) = law_solved _ (law_construct env calls 2 0 _ g.ctx g.ty)
fuel_of_moves env calls g (Right p) = law_solved _ (law_construct env calls 2 1 _ g.ctx g.ty)
fuel_of_moves env calls g (Reflexivity p) = law_solved _ (law_reflexivity env calls g.ctx g.ty)
fuel_of_moves env calls g (move.Admit p) = law_pure Admit
fuel_of_moves env calls g (Simpl p) = law_refuse _
fuel_of_moves env calls g (Unfold p w) = law_refuse _
fuel_of_moves env calls g (Destruct p w pattern) = law_refuse _
fuel_of_moves env calls g (Induction p w pattern) = law_refuse _
fuel_of_moves env calls g (Rewrite p d s) = law_refuse _

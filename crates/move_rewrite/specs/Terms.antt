-- The term for a goal that is rewritten.
use Rattle.std.specs.Prelude.{ℕ, List, Ok, codes}
use Rattle.coq_syntax.specs.declared.moves.Direction.{Direction}
use Rattle.coq_syntax.specs.declared.moves.Direction.TheVariants.{Backward}
use Rattle.core_term.specs.Tree.{Tree, Var, Constant, Lam, App}
use Rattle.core_term.specs.Places.{subst_of}
use Rattle.term_spine.specs.Spine.{shift}
use Rattle.cic_rules.specs.declared.context.Hyp.{Hyp}
use Rattle.cic_rules.specs.Steps.{Step, ◌>>=◌, ◌>>◌, sized_step}
use Rattle.move_basic.specs.Intro.{hole}
use Rattle.proof_state.specs.declared.goals.Goal.{Goal}
use Rattle.proof_state.specs.Partial.{Partial, Ready, Applies}
use Rattle.move_rewrite.specs.declared.equations.Equation.{Equation}
use Rattle.move_rewrite.specs.declared.searching.Found.{Found}
use Rattle.move_rewrite.specs.Equations.{pattern_of, other_of, filled_equation}
use Rattle.move_rewrite.specs.Replacement.{abstracted}

-- the eliminator at the side that comes, and at the goal as a function of that side
abbrev pub eliminator_at : Direction → ℕ → Equation → Tree → Tree
eliminator_at d eliminator e body = App (App (App (Constant eliminator) e.ty) (other_of d e)) (Lam (codes "z") e.ty body)

-- the left side is itself, and the equation turned round as a function of its right side
abbrev pub reflexive : Equation → Tree
reflexive e = App (App (Constant e.same) e.ty) e.left

abbrev pub turned_motive : Equation → Tree
turned_motive e = Lam (codes "z") e.ty (App (App (App (Constant e.eq) (shift e.ty)) (Var 0)) (shift e.left))

-- what makes a proof of the equation one of the equation turned round
abbrev pub turning : Equation → Tree
turning e = App (App (App (App (App (Constant e.by) e.ty) e.left) (turned_motive e)) (reflexive e)) e.right

-- the proof that the eliminator is given, by a proof of the equation
abbrev pub turned : Direction → Equation → Partial Goal → Step (Partial Goal)
turned (Backward place) e proof = Ok proof
turned _ e proof = do
  sized_step (turning e)
  Ok (Applies (Ready (turning e)) proof)

-- the term for the goal, by the goal as a function of a side
abbrev pub rewritten_by : Direction → List Hyp → ℕ → Equation → Tree → Partial Goal → Step (Partial Goal)
rewritten_by d ctx eliminator e body proof = do
  sized_step (eliminator_at d eliminator e body)
  sized_step (subst_of body (other_of d e) 0)
  x ← turned d e proof
  Ok (Applies (Applies (Applies (Ready (eliminator_at d eliminator e body)) (hole ctx (subst_of body (other_of d e) 0))) (Ready (pattern_of d e))) x)

-- the term for the goal, by what was found in it
abbrev pub rewritten : Direction → List Hyp → Tree → ℕ → Equation → Found → Partial Goal → Step (Partial Goal)
rewritten d ctx goal eliminator e x proof = do
  at ← filled_equation x.values e
  rewritten_by d ctx eliminator at (abstracted x.subterm goal 0) proof

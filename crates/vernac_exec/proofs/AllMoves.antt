-- The laws of proof moves, of all kinds: that of fuel, where refusals stand, and what stands in scope.
use Rattle.std.proofs.Common.{ℕ, List, [], true, false}
use Rattle.coq_syntax.specs.declared.moves.Direction.{Direction}
use Rattle.coq_syntax.specs.declared.moves.Direction.TheVariants.{Unmarked, Forward, Backward}
use Rattle.coq_syntax.specs.declared.token.Token.{Token}
use Rattle.coq_syntax.specs.Moves.{direction, move_tokens}
use Rattle.coq_syntax.specs.MoveTrees.{Move, Intro, Intros, Exact, Apply, Assumption, Split, Left, Right, Reflexivity, Simpl, Unfold, Destruct, Induction, Rewrite}
use Rattle.coq_syntax.specs.MoveTrees as move
use Rattle.coq_syntax.specs.Spelled.{spells}
use Rattle.cic_rules.specs.declared.env.Slot.{Slot}
use Rattle.cic_rules.specs.Environments.{IsEnvironment}
use Rattle.cic_rules.specs.Laws.{KeepsLawOfFuel, Tells}
use Rattle.proof_state.specs.declared.goals.Goal.{Goal}
use Rattle.proof_state.specs.Scopes.{IsGoalIn, IsFillingIn}
use Rattle.move_basic.proofs.FuelOfMoves.{fuel_of_moves}
use Rattle.move_compute.proofs.FuelOfComputations.{fuel_of_computations}
use Rattle.move_elim.proofs.FuelOfEliminations.{fuel_of_eliminations}
use Rattle.move_elim.proofs.ScopesOfEliminations.{scope_of_eliminations}
use Rattle.move_rewrite.proofs.FuelOfRewriting.{fuel_of_moves as fuel_of_rewriting}
use Rattle.vernac_exec.specs.Proofs.{run_move}
use Rattle.vernac_exec.proofs.ScopesOfComputations.{by_simpl_in, by_unfold_in}
use Rattle.vernac_exec.proofs.ScopesOfMoves.{basic_in}
use Rattle.vernac_exec.proofs.ScopesOfRewriting.{by_rewrite_in}
use Rattle.vernac_exec.proofs.StandsLaws.{Stands}
use Rattle.vernac_exec.proofs.StandsOfComputations.{at_by_simpl, at_by_unfold}
use Rattle.vernac_exec.proofs.StandsOfElab.{AreAt}
use Rattle.vernac_exec.proofs.StandsOfEliminations.{at_solved_by_cases}
use Rattle.vernac_exec.proofs.StandsOfMoves.{at_basic}
use Rattle.vernac_exec.proofs.StandsOfRewriting.{at_by_rewrite}

-- a move under a lower limit
pub fuel_of_move : (env : List Slot) (calls : ℕ) (g : Goal) (m : Move) → KeepsLawOfFuel (run_move env calls g m)
fuel_of_move env calls g (Intro p w) = fuel_of_moves env calls g (Intro p w)
fuel_of_move env calls g (Intros p ws) = fuel_of_moves env calls g (Intros p ws)
fuel_of_move env calls g (Exact p s) = fuel_of_moves env calls g (Exact p s)
fuel_of_move env calls g (Apply p s) = fuel_of_moves env calls g (Apply p s)
fuel_of_move env calls g (Assumption p) = fuel_of_moves env calls g (Assumption p)
fuel_of_move env calls g (Split p) = fuel_of_moves env calls g (Split p)
fuel_of_move env calls g (Left p) = fuel_of_moves env calls g (Left p)
fuel_of_move env calls g (Right p) = fuel_of_moves env calls g (Right p)
fuel_of_move env calls g (Reflexivity p) = fuel_of_moves env calls g (Reflexivity p)
fuel_of_move env calls g (move.Admit p) = fuel_of_moves env calls g (move.Admit p)
fuel_of_move env calls g (Simpl p) = fuel_of_computations env calls g (Simpl p)
fuel_of_move env calls g (Unfold p w) = fuel_of_computations env calls g (Unfold p w)
fuel_of_move env calls g (Destruct p w pattern) = fuel_of_eliminations env calls g (Destruct p w pattern)
fuel_of_move env calls g (Induction p w pattern) = fuel_of_eliminations env calls g (Induction p w pattern)
fuel_of_move env calls g (Rewrite p d s) = fuel_of_rewriting env calls g (Rewrite p d s)

module _ (P : ℕ → ℕ → Type 0) where
  behind_direction : (d : Direction) (rest : List Token) → AreAt P (direction d rest) → AreAt P rest
  behind_direction Unmarked rest at = at
  behind_direction (Forward place) rest at = at.1
  behind_direction (Backward place) rest at = at.1

  -- the tokens of the move stand so
  pub at_move : (env : List Slot) (calls : ℕ) (g : Goal) (m : Move) → AreAt P (move_tokens m) → Stands P (run_move env calls g m)
  at_move env calls g (Intro p w) at = at_basic P env calls g (Intro p w) at
  at_move env calls g (Intros p ws) at = at_basic P env calls g (Intros p ws) at
  at_move env calls g (Exact p s) at = at_basic P env calls g (Exact p s) at
  at_move env calls g (Apply p s) at = at_basic P env calls g (Apply p s) at
  at_move env calls g (Assumption p) at = at_basic P env calls g (Assumption p) at
  at_move env calls g (Split p) at = at_basic P env calls g (Split p) at
  at_move env calls g (Left p) at = at_basic P env calls g (Left p) at
  at_move env calls g (Right p) at = at_basic P env calls g (Right p) at
  at_move env calls g (Reflexivity p) at = at_basic P env calls g (Reflexivity p) at
  at_move env calls g (move.Admit p) at = at_basic P env calls g (move.Admit p) at
  at_move env calls g (Simpl p) at = at_by_simpl P env calls g
  at_move env calls g (Unfold p w) at = at_by_unfold P env g w.text
  at_move env calls g (Destruct p w pattern) at = at_solved_by_cases P false env calls g w.text pattern
  at_move env calls g (Induction p w pattern) at = at_solved_by_cases P true env calls g w.text pattern
  at_move env calls g (Rewrite p d s) at = at_by_rewrite P env calls g d s (behind_direction d (spells s []) at.1)

-- what a move gives is in scope of its goal
module _ (env : List Slot) (is : IsEnvironment env) (calls : ℕ) where
  pub move_in : (g : Goal) (m : Move) → IsGoalIn env g → Tells (run_move env calls g m) (IsFillingIn env g.ctx)
  move_in g (Intro p w) goal = basic_in env is calls g (Intro p w) goal
  move_in g (Intros p ws) goal = basic_in env is calls g (Intros p ws) goal
  move_in g (Exact p s) goal = basic_in env is calls g (Exact p s) goal
  move_in g (Apply p s) goal = basic_in env is calls g (Apply p s) goal
  move_in g (Assumption p) goal = basic_in env is calls g (Assumption p) goal
  move_in g (Split p) goal = basic_in env is calls g (Split p) goal
  move_in g (Left p) goal = basic_in env is calls g (Left p) goal
  move_in g (Right p) goal = basic_in env is calls g (Right p) goal
  move_in g (Reflexivity p) goal = basic_in env is calls g (Reflexivity p) goal
  move_in g (move.Admit p) goal = basic_in env is calls g (move.Admit p) goal
  move_in g (Simpl p) goal = by_simpl_in env is calls g goal
  move_in g (Unfold p w) goal = by_unfold_in env is g w.text goal
  move_in g (Destruct p w pattern) goal = scope_of_eliminations env is calls g (Destruct p w pattern) goal
  move_in g (Induction p w pattern) goal = scope_of_eliminations env is calls g (Induction p w pattern) goal
  move_in g (Rewrite p d s) goal = by_rewrite_in env is calls g d s goal

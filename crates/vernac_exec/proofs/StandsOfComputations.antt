-- The refusals of `simpl` and `unfold` stand at the whole sentence.
use Rattle.std.proofs.Common.{ℕ, zero, suc, List, [], Bool, true, false, Option, Some, None, Ok, Err}
use Rattle.base_core.specs.declared.refusal_codes.TheConstants.{NOT_TRANSPARENT, NAME_NOT_IN_GOAL}
use Rattle.core_term.specs.Tree.{Tree, Var, Sorted, Constant, Prod, Lam, LetIn, App}
use Rattle.term_spine.specs.Globals.{mentions}
use Rattle.term_spine.specs.Spine.{head_of, arguments_of}
use Rattle.cic_rules.specs.declared.env.Slot.{Slot}
use Rattle.cic_rules.specs.Environments.{body_of_global, place_in}
use Rattle.cic_rules.specs.Reduce.{redex_of}
use Rattle.cic_rules.specs.Runs.{Run}
use Rattle.proof_state.specs.declared.goals.Goal.{Goal}
use Rattle.move_compute.specs.declared.firing.Chosen.{Chosen}
use Rattle.move_compute.specs.declared.refolds.Refold.{Refold}
use Rattle.move_compute.specs.declared.unfolding.Unfolded.{Unfolded}
use Rattle.move_compute.specs.Moves.{goal_becomes, by_simpl, by_unfold}
use Rattle.move_compute.specs.Refold.{refold_of, awaited}
use Rattle.move_compute.specs.Simpl.{contract_refold, rebuilt, by_parts, refold_step, head_step_by, head_step, simpl_head_at, simpl_at}
use Rattle.move_compute.specs.Unfold.{some_step, require_step, term_step, unfold_in}
use Rattle.move_compute.specs.Unfolding.{Making, unfolded}
use Rattle.vernac_exec.proofs.StandsLaws.{Stands, StepAt, step_at_then, stands_pure, stands_step_of, stands_bind, stands_step, stands_spend, stands_loop, stands_laws}
use Rattle.vernac_exec.proofs.StandsOfKernel.{at_redex}

module _ (P : ℕ → ℕ → Type 0) where
  -- `simpl`
  at_refolded : (t head : Tree) (args : List Tree) (r : Refold) (c : Option Chosen) → Stands P (contract_refold t head args r c)
  at_refolded t head args r None = search (stands_laws)
  at_refolded t head args r (Some c) = search (stands_laws) depth 12

  at_rebuilt : (t : Tree) → Stands P (rebuilt t)
  at_rebuilt t = search (stands_laws)

  at_parts : (run : Tree → Run Tree) → ((t : Tree) → Stands P (run t)) → (t : Tree) → Stands P (by_parts run t)
  at_parts run runs (Prod n a b) = stands_bind (runs a) (λ x. stands_bind (runs b) (λ y. at_rebuilt (Prod n x y)))
  at_parts run runs (Lam n a b) = stands_bind (runs a) (λ x. stands_bind (runs b) (λ y. at_rebuilt (Lam n x y)))
  at_parts run runs (LetIn n a t b) = stands_bind (runs a) (λ x. stands_bind (runs t) (λ y. stands_bind (runs b) (λ z. at_rebuilt (LetIn n x y z))))
  at_parts run runs (App f a) = stands_bind (runs f) (λ x. stands_bind (runs a) (λ y. at_rebuilt (App x y)))
  at_parts run runs (Var i) = stands_pure (Var i)
  at_parts run runs (Sorted s) = stands_pure (Sorted s)
  at_parts run runs (Constant c) = stands_pure (Constant c)

  at_refold : (env : List Slot) (reduce : Tree → Run Tree) → ((v : Tree) → Stands P (reduce v)) → (t head : Tree) (args : List Tree) (r : Refold) (v : Option Tree) →
      Stands P (refold_step env reduce t head args r v)
  at_refold env reduce at t head args r None = search (stands_laws)
  at_refold env reduce at t head args r (Some v) = stands_bind (at v) (λ w. at_refolded t head args r _)

  at_head_by : (env : List Slot) (reduce : Tree → Run Tree) → ((v : Tree) → Stands P (reduce v)) → (t head : Tree) (args : List Tree) (r : Option Refold) →
      Stands P (head_step_by env reduce t head args r)
  at_head_by env reduce at t head args None = at_redex P env false reduce at t (redex_of env false [] head args)
  at_head_by env reduce at t head args (Some r) = at_refold env reduce at t head args r (awaited r args)

  at_head : (env : List Slot) (calls : ℕ) (t : Tree) → Stands P (simpl_head_at env calls t)
  unfolding simpl_head_at
  at_head env zero t = search (stands_laws)
  at_head env (suc calls) t =
      stands_loop P (head_step env (simpl_head_at env calls))
      (λ u. at_head_by env (simpl_head_at env calls) (at_head env calls) u (head_of u) (arguments_of u) (refold_of env (head_of u))) t

  at_simpl : (env : List Slot) (calls : ℕ) (t : Tree) → Stands P (simpl_at env calls t)
  unfolding simpl_at
  at_simpl env zero t = search (stands_laws)
  at_simpl env (suc calls) t =
      stands_step (stands_spend 1) (stands_bind (at_head env calls t) (λ h. at_parts (simpl_at env calls) (at_simpl env calls) h))

  -- `unfold`
  at_some : {A : Type 0} (code : ℕ) (found : Option A) → StepAt P (some_step code found)
  at_some code None = tt
  at_some code (Some x) = tt

  at_require : (test : Bool) (code : ℕ) → StepAt P (require_step test code)
  at_require true code = tt
  at_require false code = tt

  at_term : (u : Making Unfolded) → StepAt P (term_step u)
  at_term (Ok u) = tt
  at_term (Err stop) = tt

  at_unfold : (env : List Slot) (name : List ℕ) (goal : Tree) → StepAt P (unfold_in env name goal)
  at_unfold env name goal =
      step_at_then P (some_step NOT_TRANSPARENT (place_in env name)) _ (at_some NOT_TRANSPARENT (place_in env name)) (λ place.
      step_at_then P (some_step NOT_TRANSPARENT (body_of_global env place)) _ (at_some NOT_TRANSPARENT (body_of_global env place)) (λ body.
      step_at_then P (require_step (mentions place goal) NAME_NOT_IN_GOAL) _ (at_require (mentions place goal) NAME_NOT_IN_GOAL) (λ _.
      at_term (unfolded place body goal))))

  at_becomes : (g : Goal) (run : Run Tree) → Stands P run → Stands P (goal_becomes g run)
  at_becomes g run at = stands_bind at (λ t. stands_pure _)

  -- the moves
  pub at_by_simpl : (env : List Slot) (calls : ℕ) (g : Goal) → Stands P (by_simpl env calls g)
  at_by_simpl env calls g = at_becomes g _ (at_simpl env calls g.ty)

  pub at_by_unfold : (env : List Slot) (g : Goal) (name : List ℕ) → Stands P (by_unfold env g name)
  at_by_unfold env g name = at_becomes g _ (stands_step_of P (unfold_in env name g.ty) (at_unfold env name g.ty))

-- The law of fuel for each run.
use Rattle.std.specs.Prelude.{ℕ, zero, suc, List, [], false, Option, Some, None}
use Rattle.std.proofs.Common.{arith}
use Rattle.core_term.specs.Tree.{Tree, Var, Sorted, Constant, Prod, Lam, LetIn, App}
use Rattle.cic_rules.specs.declared.env.Slot.{Slot}
use Rattle.cic_rules.specs.Laws.{KeepsLawOfFuel}
use Rattle.cic_rules.specs.Runs.{Run, ◌>>◌, pure, check_size, Turn, GoOn}
use Rattle.cic_rules.proofs.FuelLaws.{IsTurn, law_pure, law_bind, law_step, law_spend, law_loop, law_size, turn_spend, fuel_laws, turn_laws}
use Rattle.cic_rules.proofs.JudgeFuelLaws.{turn_reduce}
use Rattle.term_spine.specs.Spine.{head_of, arguments_of}
use Rattle.move_compute.specs.Refold.{refold_of, awaited, own_eliminator, refolded}
use Rattle.move_compute.specs.declared.firing.Chosen.{Chosen}
use Rattle.move_compute.specs.declared.refolds.Refold.{Refold}
use Rattle.move_compute.specs.Simpl.{contract_refold, by_parts, rebuilt, refold_step, head_step_by, head_step, simpl_head_at, simpl_at}

abbrev going_on : Tree → Turn Tree Tree
going_on to = GoOn to

law_measured : (inner to : Tree) → KeepsLawOfFuel (check_size inner >> (check_size to >> pure (going_on to)))
law_measured inner to = law_step (law_size inner) (law_step (law_size to) (law_pure (going_on to)))

turn_refolded : (t head : Tree) (args : List Tree) (r : Refold) (c : Option Chosen) → IsTurn (contract_refold t head args r c)
turn_refolded t head args r None = search (turn_laws)
turn_refolded t head args r (Some c) = turn_spend 2 (omega arith) (law_measured (own_eliminator r head args) (refolded r head args c))

law_rebuilt : (t : Tree) → KeepsLawOfFuel (rebuilt t)
law_rebuilt t = search (fuel_laws)

law_parts : (run : Tree → Run Tree) → ((t : Tree) → KeepsLawOfFuel (run t)) → (t : Tree) → KeepsLawOfFuel (by_parts run t)
law_parts run laws (Prod n a b) = law_bind (laws a) (λ x. law_bind (laws b) (λ y. law_rebuilt (Prod n x y)))
law_parts run laws (Lam n a b) = law_bind (laws a) (λ x. law_bind (laws b) (λ y. law_rebuilt (Lam n x y)))
law_parts run laws (LetIn n a t b) = law_bind (laws a) (λ x. law_bind (laws t) (λ y. law_bind (laws b) (λ z. law_rebuilt (LetIn n x y z))))
law_parts run laws (App f a) = law_bind (laws f) (λ x. law_bind (laws a) (λ y. law_rebuilt (App x y)))
law_parts run laws (Var i) = law_pure (Var i)
law_parts run laws (Sorted s) = law_pure (Sorted s)
law_parts run laws (Constant c) = law_pure (Constant c)

module _ (env : List Slot) where
  turn_refold : (reduce : Tree → Run Tree) → ((v : Tree) → KeepsLawOfFuel (reduce v)) → (t head : Tree) (args : List Tree) (r : Refold) (v : Option Tree) →
      IsTurn (refold_step env reduce t head args r v)
  turn_refold reduce laws t head args r None = search (turn_laws)
  turn_refold reduce laws t head args r (Some v) = search (turn_laws, turn_refolded)

  turn_head_by : (reduce : Tree → Run Tree) → ((v : Tree) → KeepsLawOfFuel (reduce v)) → (t : Tree) (r : Option Refold) →
      IsTurn (head_step_by env reduce t (head_of t) (arguments_of t) r)
  turn_head_by reduce laws t None = turn_reduce env false reduce laws [] t
  turn_head_by reduce laws t (Some r) = turn_refold reduce laws t (head_of t) (arguments_of t) r (awaited r (arguments_of t))

  pub turn_head : (reduce : Tree → Run Tree) → ((v : Tree) → KeepsLawOfFuel (reduce v)) → (t : Tree) → IsTurn (head_step env reduce t)
  turn_head reduce laws t = turn_head_by reduce laws t (refold_of env (head_of t))

  pub law_head : (calls : ℕ) (t : Tree) → KeepsLawOfFuel (simpl_head_at env calls t)
  unfolding simpl_head_at
  law_head zero t = search (fuel_laws)
  law_head (suc calls) t = law_loop (head_step env (simpl_head_at env calls)) (turn_head (simpl_head_at env calls) (law_head calls)) t

  pub law_simpl : (calls : ℕ) (t : Tree) → KeepsLawOfFuel (simpl_at env calls t)
  unfolding simpl_at
  law_simpl zero t = search (fuel_laws)
  law_simpl (suc calls) t = law_step (law_spend 1) (law_bind (law_head calls t) (λ h. law_parts (simpl_at env calls) (law_simpl calls) h))

-- `simpl`: reduction of each part by beta, zeta, iota and the definitions that go on by an argument, which keep their names.
use Rattle.std.specs.Prelude.{ℕ, zero, suc, List, [], false, Option, Some, None}
use Rattle.base_core.specs.declared.refusals.Limit.TheVariants.{DepthLimit}
use Rattle.core_term.specs.Tree.{Tree, Prod, Lam, LetIn, App}
use Rattle.term_spine.specs.Spine.{head_of, arguments_of}
use Rattle.cic_rules.specs.declared.env.Slot.{Slot}
use Rattle.cic_rules.specs.Reduce.{redex_of, reduce_redex}
use Rattle.cic_rules.specs.Runs.{Run, ◌>>=◌, ◌>>◌, pure, out_of, spend, check_size, Turn, Final, GoOn, runs}
use Rattle.move_compute.specs.Firing.{chosen}
use Rattle.move_compute.specs.Refold.{refold_of, awaited, own_eliminator, refolded}
use Rattle.move_compute.specs.declared.firing.Chosen.{Chosen}
use Rattle.move_compute.specs.declared.refolds.Refold.{Refold}

-- a definition goes on for two units; the eliminator with the arguments put in, and what it becomes, are measured
abbrev pub paid_refold : Tree → Tree → Run (Turn Tree Tree)
paid_refold inner to = do
  spend 2
  check_size inner
  check_size to
  pure (GoOn to)

-- where the argument is no constructor the term stays as it was
abbrev pub contract_refold : Tree → Tree → List Tree → Refold → Option Chosen → Run (Turn Tree Tree)
contract_refold t head args r None = pure (Final t)
contract_refold t head args r (Some c) = paid_refold (own_eliminator r head args) (refolded r head args c)

-- a term that was built again is measured
abbrev pub rebuilt : Tree → Run Tree
rebuilt t = check_size t >> pure t

-- each part by a run, and the term of what they give
abbrev pub by_parts : (Tree → Run Tree) → Tree → Run Tree
by_parts run (Prod n a b) = do
  x ← run a
  y ← run b
  rebuilt (Prod n x y)
by_parts run (Lam n a b) = do
  x ← run a
  y ← run b
  rebuilt (Lam n x y)
by_parts run (LetIn n a t b) = do
  x ← run a
  y ← run t
  z ← run b
  rebuilt (LetIn n x y z)
by_parts run (App f a) = do
  x ← run f
  y ← run a
  rebuilt (App x y)
by_parts run t = pure t

module _ (env : List Slot) where
  -- a turn of a definition with its arguments that goes on by this one, if it has it
  abbrev pub refold_step : (Tree → Run Tree) → Tree → Tree → List Tree → Refold → Option Tree → Run (Turn Tree Tree)
  refold_step reduce t head args r None = pure (Final t)
  refold_step reduce t head args r (Some v) = do
    w ← reduce v
    contract_refold t head args r (chosen env r.family (arguments_of r.eliminator) w)

  -- other heads take a turn of weak head reduction without delta, and without a context: no variable is unfolded
  abbrev pub head_step_by : (Tree → Run Tree) → Tree → Tree → List Tree → Option Refold → Run (Turn Tree Tree)
  head_step_by reduce t head args None = reduce_redex env false reduce t (redex_of env false [] head args)
  head_step_by reduce t head args (Some r) = refold_step reduce t head args r (awaited r args)

  abbrev pub head_step : (Tree → Run Tree) → Tree → Run (Turn Tree Tree)
  head_step reduce t = head_step_by reduce t (head_of t) (arguments_of t) (refold_of env (head_of t))

  -- the head of a term, reduced as `simpl` does it; so many more judgements may stand in one another
  unfoldable pub simpl_head_at : ℕ → Tree → Run Tree
  simpl_head_at zero t = out_of DepthLimit
  simpl_head_at (suc calls) t = runs (head_step (simpl_head_at calls)) t

  -- a unit, the head, and then each part
  unfoldable pub simpl_at : ℕ → Tree → Run Tree
  simpl_at zero t = out_of DepthLimit
  simpl_at (suc calls) t = do
    spend 1
    h ← simpl_head_at calls t
    by_parts (simpl_at calls) h

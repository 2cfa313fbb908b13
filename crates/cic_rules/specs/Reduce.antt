-- Weak head reduction, by substitution on plain trees, with its units.
use Rattle.std.specs.Prelude.{ℕ, zero, suc, ◌+◌, List, ◌∷◌, Bool, Option, Some, None, if◌then◌else◌}
use Rattle.base_core.specs.declared.refusals.Limit.TheVariants.{DepthLimit}
use Rattle.core_term.specs.Tree.{Tree, Var, Constant, Lam, LetIn, size_of}
use Rattle.core_term.specs.Places.{subst_of}
use Rattle.term_spine.specs.Spine.{head_of, arguments_of, apply_all}
use Rattle.cic_rules.specs.declared.context.Hyp.{Hyp}
use Rattle.cic_rules.specs.declared.env.Slot.{Slot}
use Rattle.cic_rules.specs.Contexts.{value_of_variable}
use Rattle.cic_rules.specs.Environments.{body_of_global}
use Rattle.cic_rules.specs.Families.{major_premise, iota}
use Rattle.cic_rules.specs.Runs.{Run, ◌>>=◌, ◌>>◌, pure, out_of, spend, check_size, Turn, Final, GoOn, runs}

-- what a head with arguments can do: nothing, reduce for some units, or reduce where its major premise is a constructor
pub data Redex : Type 0 where
  Stuck : Redex
  Reduces : ℕ → Tree → Redex
  OnMajor : Tree → Redex

-- a definition in the place of the head, for one unit
abbrev pub unfolded : Option Tree → List Tree → Redex
unfolded None args = Stuck
unfolded (Some body) args = Reduces 1 (apply_all body args)

-- a global as head: a transparent definition, or an eliminator with all its arguments
abbrev pub global_redex : Option Tree → Option Tree → List Tree → Redex
global_redex (Some body) major args = Reduces 1 (apply_all body args)
global_redex None (Some major) args = OnMajor major
global_redex None None args = Stuck

-- a contraction is paid first and built then, and measured
abbrev pub contract : ℕ → Tree → Run (Turn Tree Tree)
contract units to = do
  spend units
  check_size to
  pure (GoOn to)

-- an eliminator on a major premise that is a constructor contracts for one unit; on another the term stays as it was
abbrev pub contract_iota : Tree → Option Tree → Run (Turn Tree Tree)
contract_iota t None = pure (Final t)
contract_iota t (Some to) = contract 1 to

module _ (env : List Slot) (delta : Bool) where
  -- what a head with its arguments can do: beta, zeta, the context's definitions, delta and iota
  abbrev pub redex_of : List Hyp → Tree → List Tree → Redex
  redex_of ctx (Lam n a b) (v ∷ args) = Reduces (1 + size_of b) (apply_all (subst_of b v 0) args)
  redex_of ctx (LetIn n a t b) args = Reduces 1 (apply_all (subst_of b t 0) args)
  redex_of ctx (Var i) args = unfolded (value_of_variable ctx i) args
  redex_of ctx (Constant c) args =
      global_redex (if delta then body_of_global env c else None) (major_premise env (Constant c) args) args
  redex_of ctx _ args = Stuck

  -- one turn, over the reduction of a major premise
  abbrev pub reduce_redex : (Tree → Run Tree) → Tree → Redex → Run (Turn Tree Tree)
  reduce_redex reduce t Stuck = pure (Final t)
  reduce_redex reduce t (Reduces units to) = contract units to
  reduce_redex reduce t (OnMajor major) = do
    value ← reduce major
    contract_iota t (iota env (head_of t) (arguments_of t) value)

  abbrev pub reduce_step : (Tree → Run Tree) → List Hyp → Tree → Run (Turn Tree Tree)
  reduce_step reduce ctx t = reduce_redex reduce t (redex_of ctx (head_of t) (arguments_of t))

  -- weak head reduction, without delta where the flag is false; so many more judgements may stand in one another
  unfoldable pub whnf_at : ℕ → List Hyp → Tree → Run Tree
  whnf_at zero ctx t = out_of DepthLimit
  whnf_at (suc calls) ctx t = runs (reduce_step (whnf_at calls ctx) ctx) t

-- When a contraction may be built: what is about stands among so many variables.
use Rattle.std.specs.Prelude.{ℕ, ◌+◌, ◌^◌, ◌≤◌, List, length}
use Rattle.core_term.specs.Tree.{Tree, free_bound}
use Rattle.term_spine.specs.Spine.{arguments_of}
use Rattle.term_spine.specs.SpineLaws.{AreOver}
use Rattle.term_spine.specs.Spines.{tree_of_spine}
use Rattle.term_spine.specs.declared.spines.Spine.{Spine}
use Rattle.cic_rules.specs.declared.env.Slot.{Slot}
use Rattle.cic_rules.specs.Scopes.{IsScoped}
use Rattle.conversion.specs.Turns.{IsSpine}
use Rattle.move_compute.specs.Cases.{IsCallOver}
use Rattle.move_compute.specs.declared.cases.Call.{Call}
use Rattle.move_compute.specs.declared.firing.Chosen.{Chosen}
use Rattle.move_compute.specs.declared.refolds.Refold.{Refold}

-- a case that was chosen, by the parameters among these arguments
pub record IsChosenOver (vars : ℕ) (args : List Tree) (c : Chosen) : Type 0 where
  pub count : c.params ≤ length args
  pub few : free_bound c.ty ≤ c.params
  pub given : AreOver vars c.given

pub record MayFire (vars : ℕ) (call : Call) (args : List Tree) (c : Chosen) : Type 0 where
  pub room : vars ≤ 2 ^ 31 + 2000
  pub call_over : IsCallOver vars call
  pub args_over : AreOver vars args
  pub chosen : IsChosenOver vars args c

-- the same of an eliminator with its arguments
pub record MayContract (vars : ℕ) (head : Tree) (args : List Tree) (c : Chosen) : Type 0 where
  pub room : vars ≤ 2 ^ 31 + 2000
  pub head_over : free_bound head ≤ vars
  pub args_over : AreOver vars args
  pub chosen : IsChosenOver vars args c

-- the same of a definition that goes on, with all its arguments
pub record MayRefold (vars : ℕ) (r : Refold) (head : Tree) (args : List Tree) (c : Chosen) : Type 0 where
  pub room : vars ≤ 2 ^ 31 + 2000
  pub head_over : free_bound head ≤ vars
  pub args_over : AreOver vars args
  pub enough : r.count ≤ length args
  pub eliminator : free_bound r.eliminator ≤ r.count
  pub case : free_bound c.case ≤ r.count
  pub chosen : IsChosenOver vars (arguments_of r.eliminator) c

-- a term among so many variables
abbrev pub IsScopedOver : List Slot → ℕ → Tree → Type 0
IsScopedOver env vars t = IsScoped vars (length env) t

-- the same, where they leave room for the binders of what is built
pub record IsTermOver (env : List Slot) (vars : ℕ) (t : Tree) : Type 0 where
  pub room : vars ≤ 2 ^ 31 + 2000
  pub term : IsScopedOver env vars t

-- the same of a spine
pub record IsSpineOver (env : List Slot) (vars : ℕ) (s : Spine) : Type 0 where
  pub room : vars ≤ 2 ^ 31 + 2000
  pub spine : IsSpine s
  pub term : IsScopedOver env vars (tree_of_spine s)

-- Constructors of an inductive type, in an environment that has the type.
use Rattle.std.specs.Prelude.{ℕ, List, length, take}
use Rattle.coq_syntax.specs.Trees.{GroupList, Annotation, Untyped, Typed}
use Rattle.core_term.specs.Tree.{Tree, Constant}
use Rattle.term_spine.specs.Spine.{variables_of}
use Rattle.cic_rules.specs.declared.context.Hyp.{Hyp}
use Rattle.cic_rules.specs.declared.env.Slot.{Slot}
use Rattle.cic_rules.specs.Fuel.{FuelState, left, calls_left}
use Rattle.cic_rules.specs.Runs.{Ran, Run}
use Rattle.cic_rules.specs.Steps.{Step, take_step}
use Rattle.elaborator.specs.declared.binders.Binding.TheVariants.{Product}
use Rattle.elaborator.specs.Parts.{applied}
use Rattle.elaborator.specs.Rows.{binding}
use Rattle.elaborator.specs.Elab.{elab, open_groups}

-- the type at a place applied to its parameters, which are the oldest of so many variables
abbrev pub applied_to_oldest : ℕ → ℕ → ℕ → Step Tree
applied_to_oldest place params variables = applied (Constant place) (take params (variables_of variables))

module _ (env : List Slot) (calls : ℕ) where
  -- what a constructor makes, under its groups: what is written, or else the type applied to its parameters
  abbrev pub result_type : List Hyp → ℕ → Annotation → List Hyp → Run Tree
  result_type params place (Typed p t) inner = elab env calls inner t
  result_type params place Untyped inner = take_step (applied_to_oldest place (length params) (length inner))

  -- the type of a constructor, in the context of the parameters
  abbrev pub constructor_type : List Hyp → ℕ → GroupList → Annotation → Run Tree
  constructor_type params place gs a = binding Product params (open_groups env calls params gs) (result_type params place a)

abbrev pub result_type_with : List Slot → List Hyp → ℕ → Annotation → List Hyp → FuelState → Ran Tree
result_type_with env params place a inner f = result_type env (calls_left f) params place a inner (left f)

abbrev pub constructor_type_with : List Slot → List Hyp → ℕ → GroupList → Annotation → FuelState → Ran Tree
constructor_type_with env params place gs a f = constructor_type env (calls_left f) params place gs a (left f)

-- Rows by their parts as trees hold them, on some fuel.
use Rattle.std.specs.Prelude.{ℕ, List, Result}
use Rattle.base_core.specs.declared.refusals.Stop.{Stop}
use Rattle.coq_syntax.specs.declared.tree.Annotation.{Annotation}
use Rattle.coq_syntax.specs.declared.tree.Argument.{Argument}
use Rattle.coq_syntax.specs.declared.tree.Binders.{Binders}
use Rattle.coq_syntax.specs.declared.tree.Group.{Group}
use Rattle.coq_syntax.specs.declared.words.BoundName.{BoundName}
use Rattle.coq_syntax.specs.Nodes.{binders_of, groups_of, annotation_of, arguments_of}
use Rattle.coq_syntax.specs.Trees.{Term, Apply}
use Rattle.core_term.specs.Tree.{Tree}
use Rattle.cic_rules.specs.declared.context.Hyp.{Hyp}
use Rattle.cic_rules.specs.declared.env.Slot.{Slot}
use Rattle.cic_rules.specs.Fuel.{FuelState, left}
use Rattle.cic_rules.specs.Judges.{Meets}
use Rattle.cic_rules.specs.Runs.{Ran}
use Rattle.elaborator.specs.declared.binders.Binding.{Binding}
use Rattle.elaborator.specs.Names.{bound_name}
use Rattle.elaborator.specs.Calls.{binding_with, let_with, typed_let_with, untyped_let_with, defined_with, application_with, named_application_with}
use Rattle.elaborator.specs.Constructors.{result_type_with, constructor_type_with}
use Rattle.elaborator.specs.Elab.{elab_with}

-- a call does what is told on the fuel that it had
abbrev pub Does : Result Tree Stop → FuelState → FuelState → (FuelState → Ran Tree) → Type 0
Does result old new call = Meets result (left new) (call old)

module _ (env : List Slot) (ctx : List Hyp) where
  abbrev pub binding_row : Binding → Binders → Term → FuelState → Ran Tree
  binding_row kind bs b f = binding_with env ctx kind (binders_of bs) b f

  abbrev pub let_row : BoundName → Annotation → Term → Term → FuelState → Ran Tree
  let_row name a v b f = let_with env ctx (bound_name name) (annotation_of a) v b f

  abbrev pub typed_let_row : BoundName → Term → Term → Term → FuelState → Ran Tree
  typed_let_row name a v b f = typed_let_with env ctx (bound_name name) a v b f

  abbrev pub untyped_let_row : BoundName → Term → Term → FuelState → Ran Tree
  untyped_let_row name v b f = untyped_let_with env ctx (bound_name name) v b f

  abbrev pub defined_row : BoundName → Tree → Tree → Term → FuelState → Ran Tree
  defined_row name a t b f = defined_with env ctx (bound_name name) a t b f

  abbrev pub apply_row : Term → List Argument → FuelState → Ran Tree
  apply_row h args f = elab_with env ctx (Apply h (arguments_of args)) f

  abbrev pub application_row : Term → List Argument → FuelState → Ran Tree
  application_row h args f = application_with env ctx h (arguments_of args) f

  abbrev pub named_application_row : Term → List Argument → FuelState → Ran Tree
  named_application_row h args f = named_application_with env ctx h (arguments_of args) f

  -- of a constructor, ctx being the parameters of its type, at a place
  abbrev pub result_row : ℕ → Annotation → List Hyp → FuelState → Ran Tree
  result_row place a inner f = result_type_with env ctx place (annotation_of a) inner f

  abbrev pub constructor_row : ℕ → List Group → Annotation → FuelState → Ran Tree
  constructor_row place gs a f = constructor_type_with env ctx place (groups_of gs) (annotation_of a) f

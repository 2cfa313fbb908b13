-- Rows that calls of their own answer, on some fuel.
use Rattle.std.specs.Prelude.{ℕ, List, []}
use Rattle.coq_syntax.specs.declared.words.TokenPlace.{TokenPlace}
use Rattle.coq_syntax.specs.declared.words.BoundName.{BoundName}
use Rattle.coq_syntax.specs.Trees.{Term, Binders, Annotation, Untyped, Typed, Arguments}
use Rattle.core_term.specs.Tree.{Tree}
use Rattle.cic_rules.specs.declared.context.Hyp.{Hyp}
use Rattle.cic_rules.specs.declared.env.Slot.{Slot}
use Rattle.cic_rules.specs.Fuel.{FuelState, left, calls_left}
use Rattle.cic_rules.specs.Infer.{infer_at}
use Rattle.cic_rules.specs.Runs.{Ran}
use Rattle.elaborator.specs.declared.binders.Binding.{Binding}
use Rattle.elaborator.specs.Rows.{arrow, bound, binding, defined, typed_let, untyped_let, operation, negation, equation, named_application, application}
use Rattle.elaborator.specs.Elab.{elab, elab_arguments, open_binders}

module _ (env : List Slot) (ctx : List Hyp) where
  abbrev pub arrow_with : Term → Term → FuelState → Ran Tree
  arrow_with a b f = arrow ctx (elab env (calls_left f) ctx a) (λ inner. elab env (calls_left f) inner b) (left f)

  abbrev pub binding_with : Binding → Binders → Term → FuelState → Ran Tree
  binding_with kind bs b f = binding kind ctx (open_binders env (calls_left f) ctx bs) (λ inner. elab env (calls_left f) inner b) (left f)

  abbrev pub defined_with : List ℕ → Tree → Tree → Term → FuelState → Ran Tree
  defined_with name a t b f = defined ctx name a t (λ inner. elab env (calls_left f) inner b) (left f)

  abbrev pub typed_let_with : List ℕ → Term → Term → Term → FuelState → Ran Tree
  typed_let_with name a v b f = typed_let ctx name (elab env (calls_left f) ctx a) (elab env (calls_left f) ctx v) (λ inner. elab env (calls_left f) inner b) (left f)

  abbrev pub untyped_let_with : List ℕ → Term → Term → FuelState → Ran Tree
  untyped_let_with name v b f = untyped_let ctx name (infer_at env (calls_left f)) (elab env (calls_left f) ctx v) (λ inner. elab env (calls_left f) inner b) (left f)

  abbrev pub let_with : List ℕ → Annotation → Term → Term → FuelState → Ran Tree
  let_with name Untyped v b f = untyped_let_with name v b f
  let_with name (Typed p a) v b f = typed_let_with name a v b f

  abbrev pub operation_with : List ℕ → Term → TokenPlace → Term → FuelState → Ran Tree
  operation_with name a sign b f = operation env name (elab env (calls_left f) ctx a) sign (elab env (calls_left f) ctx b) (left f)

  abbrev pub negation_with : TokenPlace → Term → FuelState → Ran Tree
  negation_with sign a f = negation env sign (elab env (calls_left f) ctx a) (left f)

  abbrev pub equation_with : Term → TokenPlace → Term → FuelState → Ran Tree
  equation_with a sign b f = equation env (infer_at env (calls_left f)) ctx (elab env (calls_left f) ctx a) sign (elab env (calls_left f) ctx b) (left f)

  abbrev pub named_application_with : Term → Arguments → FuelState → Ran Tree
  named_application_with h args f = named_application env ctx h args (elab env (calls_left f) ctx h) (elab_arguments env (calls_left f) ctx [] args) (left f)

  abbrev pub application_with : Term → Arguments → FuelState → Ran Tree
  application_with h args f = application (elab env (calls_left f) ctx h) (elab_arguments env (calls_left f) ctx [] args) (left f)

  abbrev pub bound_with : List BoundName → Term → FuelState → Ran (List Hyp)
  bound_with names t f = bound ctx names (elab env (calls_left f) ctx t) (left f)

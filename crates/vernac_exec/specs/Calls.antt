-- Commands and sentences on some fuel, for the calls that run them.
use Rattle.std.specs.Prelude.{ℕ, List, [], length, Bool, Option, Some, Result, Err, if◌then◌else◌}
use Rattle.base_core.specs.declared.kind.Kind.{Kind}
use Rattle.base_core.specs.declared.refusals.Place.TheVariants.{Whole}
use Rattle.base_core.specs.declared.refusals.Stop.{Stop}
use Rattle.base_core.specs.declared.refusals.Stop.TheVariants.{Refused, Out}
use Rattle.base_core.specs.declared.refusals.Limit.TheVariants.{SizeLimit}
use Rattle.prover_iface.specs.declared.outline.ItemKind.{ItemKind}
use Rattle.prover_iface.specs.declared.outline.ItemKind.TheVariants as item
use Rattle.coq_syntax.specs.declared.command.Constructor.{Constructor}
use Rattle.coq_syntax.specs.declared.tree.Annotation.{Annotation}
use Rattle.coq_syntax.specs.declared.tree.Group.{Group}
use Rattle.coq_syntax.specs.CommandTrees.{Command}
use Rattle.coq_syntax.specs.Forms.{constructors_of}
use Rattle.coq_syntax.specs.Nodes.{groups_of, annotation_of}
use Rattle.coq_syntax.specs.MoveTrees.{Move}
use Rattle.coq_syntax.specs.Trees.{Term}
use Rattle.core_term.specs.Tree.{Tree, is_small}
use Rattle.cic_rules.specs.declared.context.Hyp.{Hyp}
use Rattle.cic_rules.specs.declared.decls.Ctor.{Ctor}
use Rattle.cic_rules.specs.declared.decls.Decl.{Decl}
use Rattle.cic_rules.specs.declared.decls.Decl.TheVariants.{Define, Admit, Induct}
use Rattle.cic_rules.specs.Declare.{declare_at}
use Rattle.cic_rules.specs.declared.env.Slot.{Slot}
use Rattle.cic_rules.specs.Eliminators.{type_of_decl}
use Rattle.cic_rules.specs.Environments.{entered}
use Rattle.cic_rules.specs.Inductive.{ctor_names, assumed_type}
use Rattle.cic_rules.specs.Judges.{Meets}
use Rattle.cic_rules.specs.Fuel.{FuelState, left, calls_left}
use Rattle.cic_rules.specs.Runs.{Ran, Run, ◌>>=◌, give, pure}
use Rattle.cic_rules.specs.Steps.{take_step}
use Rattle.elaborator.specs.declared.binders.Binding.{Binding}
use Rattle.elaborator.specs.declared.binders.Binding.TheVariants.{Product}
use Rattle.elaborator.specs.Parts.{closed}
use Rattle.elaborator.specs.Constructors.{constructor_type}
use Rattle.elaborator.specs.Elab.{elab, open_groups}
use Rattle.proof_state.specs.declared.goals.Goal.{Goal}
use Rattle.proof_state.specs.declared.state.Filling.{Filling}
use Rattle.proof_state.specs.Steps.{started, bounded, closed as whole_proof}
use Rattle.vernac_exec.specs.declared.deed.Deed.{Deed}
use Rattle.vernac_exec.specs.declared.deed.Deed.TheVariants.{Begins}
use Rattle.vernac_exec.specs.declared.reading.Reading.{Reading}
use Rattle.vernac_exec.specs.declared.state.OpenProof.{OpenProof}
use Rattle.vernac_exec.specs.Families.{ctor, family, named_ctors, elab_constructors}
use Rattle.vernac_exec.specs.Commands.{declare_as, assume, elab_over, elab_annotation, define, elab_family, induct, check, theorem, named_hyps, begin_proof, obey}
use Rattle.vernac_exec.specs.Proofs.{run_move, prove_at, prove, end_proof, obey_inside}
use Rattle.vernac_exec.specs.Sentences.{run_outside, run_inside, run_reading, sentence_run}

-- a refusal at the whole sentence
abbrev pub refusal_of : ℕ → Stop
refusal_of code = Refused (record { code = code; place = Whole })

-- a call does what is told on the fuel that it had
abbrev pub Does : {A : Type 0} → Result A Stop → FuelState → FuelState → (FuelState → Ran A) → Type 0
Does result old new call = Meets result (left new) (call old)

-- the names of constructors as a parser gives them
abbrev pub constructor_names : List Constructor → List (List ℕ)
constructor_names cs = ctor_names (named_ctors (constructors_of cs))

module _ (env : List Slot) where
  abbrev pub declare_as_with : ItemKind → Decl → FuelState → Ran Deed
  declare_as_with kind d f = declare_as env (calls_left f) kind d (left f)

  abbrev pub assume_with : List ℕ → Term → FuelState → Ran Deed
  assume_with name s f = assume env (calls_left f) name s (left f)

  abbrev pub elab_over_with : Binding → List Hyp → Term → FuelState → Ran Tree
  elab_over_with kind inner s f = elab_over env (calls_left f) kind inner s (left f)

  abbrev pub annotation_with : List Hyp → Annotation → FuelState → Ran (Option Tree)
  annotation_with inner a f = elab_annotation env (calls_left f) inner (annotation_of a) (left f)

  abbrev pub define_with : List ℕ → List Group → Annotation → Term → FuelState → Ran Deed
  define_with name gs a s f = define env (calls_left f) name (groups_of gs) (annotation_of a) s (left f)

  -- the context of the parameters of a type
  abbrev pub params_with : List Group → FuelState → Ran (List Hyp)
  params_with gs f = open_groups env (calls_left f) [] (groups_of gs) (left f)

  -- one constructor
  abbrev pub ctor_run : ℕ → List Hyp → ℕ → Constructor → Run Ctor
  ctor_run calls params place c = do
    ty ← constructor_type env calls params place (groups_of c.groups.items) (annotation_of c.annotation)
    pure (ctor c.name.text ty)

  abbrev pub ctor_with : List Hyp → ℕ → Constructor → FuelState → Ran Ctor
  ctor_with params place c f = ctor_run (calls_left f) params place c (left f)

  abbrev pub constructors_with : List Hyp → ℕ → List Constructor → FuelState → Ran (List Ctor)
  constructors_with params place cs f = elab_constructors env (calls_left f) params place [] (constructors_of cs) (left f)

  -- the environment with a type as an assumption
  abbrev pub assumed_in : List ℕ → List Hyp → Tree → Result (List Slot) Stop
  assumed_in name params arity =
      if is_small (type_of_decl (family name params arity [])) then entered env (assumed_type (family name params arity []))
      else Err (Out SizeLimit)

  -- what is left to do in that environment
  abbrev pub rest_run : ℕ → List Slot → List ℕ → List Hyp → Tree → List Constructor → Run Deed
  rest_run calls inner name params arity cs = do
    ctors ← elab_constructors inner calls params (length env) [] (constructors_of cs)
    declare_as env calls item.Inductive (Induct (family name params arity ctors))

  abbrev pub rest_with : List Slot → List ℕ → List Hyp → Tree → List Constructor → FuelState → Ran Deed
  rest_with inner name params arity cs f = rest_run (calls_left f) inner name params arity cs (left f)

  abbrev pub family_with : List ℕ → List Hyp → Tree → List Constructor → FuelState → Ran Deed
  family_with name params arity cs f = elab_family env (calls_left f) name params arity (constructors_of cs) (left f)

  abbrev pub induct_with : List ℕ → List Group → Term → List Constructor → FuelState → Ran Deed
  induct_with name gs s cs f = induct env (calls_left f) name (groups_of gs) s (constructors_of cs) (left f)

  -- a type whose names are free
  abbrev pub induct_new : ℕ → List ℕ → List Group → Term → List Constructor → Run Deed
  induct_new calls name gs s cs = do
    params ← open_groups env calls [] (groups_of gs)
    arity ← elab env calls params s
    elab_family env calls name params arity (constructors_of cs)

  abbrev pub induct_new_with : List ℕ → List Group → Term → List Constructor → FuelState → Ran Deed
  induct_new_with name gs s cs f = induct_new (calls_left f) name gs s cs (left f)

  abbrev pub check_with : List Hyp → Term → FuelState → Ran Deed
  check_with ctx s f = check env (calls_left f) ctx s (left f)

  abbrev pub begin_with : List ℕ → List Group → Term → FuelState → Ran Deed
  begin_with name gs s f = begin_proof env (calls_left f) name (groups_of gs) s (left f)

  -- a theorem whose statement is elaborated over these hypotheses
  abbrev pub stated : ℕ → List ℕ → List Hyp → Tree → Run Deed
  stated calls name inner statement = do
    ty ← take_step (closed Product inner statement)
    admitted ← declare_at env calls (Admit name ty)
    pure (Begins (theorem name ty admitted) (started (named_hyps env inner) statement))

  abbrev pub stated_with : List ℕ → List Hyp → Tree → FuelState → Ran Deed
  stated_with name inner statement f = stated (calls_left f) name inner statement (left f)

  abbrev pub obey_with : Command → FuelState → Ran Deed
  obey_with c f = obey env (calls_left f) c (left f)

  abbrev pub run_move_with : Goal → Move → FuelState → Ran Filling
  run_move_with g m f = run_move env (calls_left f) g m (left f)

  abbrev pub prove_at_with : OpenProof → ℕ → Goal → Move → FuelState → Ran Deed
  prove_at_with o n g m f = prove_at env (calls_left f) o n g m (left f)

  abbrev pub prove_with : OpenProof → Move → FuelState → Ran Deed
  prove_with o m f = prove env (calls_left f) o m (left f)

  abbrev pub end_with : Bool → OpenProof → FuelState → Ran Deed
  end_with opaque o f = end_proof env (calls_left f) opaque o (left f)

  -- a proof without goals goes to the kernel
  abbrev pub closed_run : ℕ → Bool → OpenProof → Run Deed
  closed_run calls opaque o = do
    t ← give (bounded (whole_proof o.proof))
    declare_as env calls item.Theorem (Define o.theorem.name (Some o.theorem.ty) t opaque)

  abbrev pub closed_with : Bool → OpenProof → FuelState → Ran Deed
  closed_with opaque o f = closed_run (calls_left f) opaque o (left f)

  abbrev pub inside_with : OpenProof → Command → FuelState → Ran Deed
  inside_with o c f = obey_inside env (calls_left f) o c (left f)

  abbrev pub run_outside_with : Reading → FuelState → Ran Deed
  run_outside_with r f = run_outside env (calls_left f) r (left f)

  abbrev pub run_inside_with : OpenProof → Reading → FuelState → Ran Deed
  run_inside_with o r f = run_inside env (calls_left f) o r (left f)

  abbrev pub run_reading_with : Option OpenProof → Reading → FuelState → Ran Deed
  run_reading_with opened r f = run_reading env (calls_left f) opened r (left f)

  -- a sentence that was read so, or refused
  abbrev pub run_read : ℕ → Option OpenProof → Result Reading Stop → Run Deed
  run_read calls opened reading = do
    r ← give reading
    run_reading env calls opened r

  abbrev pub run_read_with : Option OpenProof → Result Reading Stop → FuelState → Ran Deed
  run_read_with opened reading f = run_read (calls_left f) opened reading (left f)

  abbrev pub sentence_with : Option OpenProof → Kind → List ℕ → FuelState → Ran Deed
  sentence_with opened kind text f = sentence_run env (calls_left f) opened kind text (left f)

-- The run of each command where no proof is under way. Names come first, then elaboration from left to right, then the kernel.
use Rattle.std.specs.Prelude.{ℕ, List, [], ◌∷◌, ◌++◌, length, false, Option, Some, None, codes}
use Rattle.base_core.specs.declared.refusal_codes.TheConstants as code
use Rattle.prover_iface.specs.declared.outline.ItemKind.{ItemKind}
use Rattle.prover_iface.specs.declared.outline.ItemKind.TheVariants as item
use Rattle.coq_syntax.specs.Trees.{Term, GroupList, Annotation, Untyped, Typed}
use Rattle.coq_syntax.specs.CommandTrees.{Constructor, Command}
use Rattle.coq_syntax.specs.CommandTrees as command
use Rattle.core_term.specs.Tree.{Tree}
use Rattle.cic_rules.specs.declared.context.Hyp.{Hyp}
use Rattle.cic_rules.specs.declared.decls.Decl.{Decl}
use Rattle.cic_rules.specs.declared.decls.Decl.TheVariants.{Assume, Define, Admit, Induct}
use Rattle.cic_rules.specs.declared.env.Slot.{Slot}
use Rattle.cic_rules.specs.Environments.{is_taken, entered}
use Rattle.cic_rules.specs.Infer.{infer_at}
use Rattle.cic_rules.specs.Eliminators.{type_of_decl, argument_name}
use Rattle.cic_rules.specs.Inductive.{has_twice, any_taken, assumed_type}
use Rattle.cic_rules.specs.Declare.{declare_at}
use Rattle.cic_rules.specs.Runs.{Run, ◌>>=◌, ◌>>◌, give, pure, refuse, check_size, forbid}
use Rattle.cic_rules.specs.Steps.{take_step}
use Rattle.elaborator.specs.declared.binders.Binding.{Binding}
use Rattle.elaborator.specs.declared.binders.Binding.TheVariants.{Product, Function}
use Rattle.elaborator.specs.Parts.{closed}
use Rattle.elaborator.specs.Elab.{elab, open_groups}
use Rattle.fresh_names.specs.Shown.{shown_names}
use Rattle.proof_state.specs.Steps.{started}
use Rattle.term_print.specs.Show.{printed}
use Rattle.vernac_exec.specs.declared.deed.Deed.{Deed}
use Rattle.vernac_exec.specs.declared.deed.Deed.TheVariants.{Declares, Answers, Begins}
use Rattle.vernac_exec.specs.declared.state.Theorem.{Theorem}
use Rattle.vernac_exec.specs.Families.{family, written_names, elab_constructors}

-- a term and its type
abbrev pub judgement_text : List Slot → List Hyp → Tree → Tree → List ℕ
judgement_text env ctx t ty = printed env ctx t ++ (codes " : " ++ printed env ctx ty)

abbrev pub theorem : List ℕ → Tree → List Slot → Theorem
theorem name ty admitted = record { name = name; ty = ty; admitted = admitted }

-- a hypothesis under this name
abbrev pub named_hyp : Hyp → List ℕ → Hyp
named_hyp h name = record h { name = name }

-- hypotheses, the newest first, where each `_` has its automatic name among those before it
abbrev pub named_hyps : List Slot → List Hyp → List Hyp
named_hyps env [] = []
named_hyps env (h ∷ hs) = named_hyp h (argument_name env (shown_names (named_hyps env hs)) h.name h.ty) ∷ named_hyps env hs

-- in an environment; so many judgements may stand in one another
module _ (env : List Slot) (calls : ℕ) where
  -- what was elaborated goes to the kernel
  abbrev pub declare_as : ItemKind → Decl → Run Deed
  declare_as kind d = do
    made ← declare_at env calls d
    pure (Declares kind made)

  -- `Axiom` or `Parameter`, name `:` type
  abbrev pub assume : List ℕ → Term → Run Deed
  assume name s = do
    forbid (is_taken env name) code.NAME_TAKEN
    ty ← elab env calls [] s
    declare_as item.Axiom (Assume name ty)

  -- a term under groups, as a product or a function over them
  abbrev pub elab_over : Binding → List Hyp → Term → Run Tree
  elab_over kind inner s = do
    t ← elab env calls inner s
    take_step (closed kind inner t)

  -- the type over the groups, where one is written
  abbrev pub elab_annotation : List Hyp → Annotation → Run (Option Tree)
  elab_annotation inner Untyped = pure None
  elab_annotation inner (Typed colon s) = do
    ty ← elab_over Product inner s
    pure (Some ty)

  -- `Definition` name groups annotation `:=` value
  abbrev pub define : List ℕ → GroupList → Annotation → Term → Run Deed
  define name groups annotation s = do
    forbid (is_taken env name) code.NAME_TAKEN
    inner ← open_groups env calls [] groups
    ty ← elab_annotation inner annotation
    value ← elab_over Function inner s
    declare_as item.Definition (Define name ty value false)

  -- the constructors are elaborated where the type is an assumption at the next place, as the kernel will judge them
  abbrev pub elab_family : List ℕ → List Hyp → Tree → List Constructor → Run Deed
  elab_family name params arity cs = do
    check_size (type_of_decl (family name params arity []))
    inner ← give (entered env (assumed_type (family name params arity [])))
    ctors ← elab_constructors inner calls params (length env) [] cs
    declare_as item.Inductive (Induct (family name params arity ctors))

  -- `Inductive` name groups `:` arity `:=` constructors
  abbrev pub induct : List ℕ → GroupList → Term → List Constructor → Run Deed
  induct name groups s cs = do
    forbid (has_twice (written_names name cs)) code.DUPLICATE_NAME
    forbid (any_taken env (written_names name cs)) code.NAME_TAKEN
    params ← open_groups env calls [] groups
    arity ← elab env calls params s
    elab_family name params arity cs

  -- `Check` term, in a context
  abbrev pub check : List Hyp → Term → Run Deed
  check ctx s = do
    t ← elab env calls ctx s
    i ← infer_at env calls ctx t
    pure (Answers (judgement_text env ctx t i.ty))

  -- `Theorem` or `Lemma`, name groups `:` statement. It is declared as an admitted one, in an environment that is put by; its proof
  -- begins with the groups as hypotheses
  abbrev pub begin_proof : List ℕ → GroupList → Term → Run Deed
  begin_proof name groups s = do
    forbid (is_taken env name) code.NAME_TAKEN
    inner ← open_groups env calls [] groups
    statement ← elab env calls inner s
    ty ← take_step (closed Product inner statement)
    admitted ← declare_at env calls (Admit name ty)
    pure (Begins (theorem name ty admitted) (started (named_hyps env inner) statement))

  -- a command where no proof is under way
  unfoldable pub obey : Command → Run Deed
  obey (command.Assume word keyword name colon ty) = assume name.text ty
  obey (command.Define keyword name groups annotation assign value) = define name.text groups annotation value
  obey (command.State word keyword name groups colon ty) = begin_proof name.text groups ty
  obey (command.Inductive keyword name groups colon arity assign constructors) = induct name.text groups arity constructors
  obey (command.Check keyword term) = check [] term
  obey (command.Proof place) = refuse code.NO_PROOF
  obey (command.Qed place) = refuse code.NO_PROOF
  obey (command.Defined place) = refuse code.NO_PROOF
  obey (command.Admitted place) = refuse code.NO_PROOF
  obey (command.Aborted place) = refuse code.NO_PROOF

-- A proof under way stays a proof, and its goals stay in scope.
use Rattle.std.proofs.Common.{◌≡◌, ℕ, suc, nat_lt, List, [], ◌∷◌, length, Bool, true, false, Option, Some, None, Result, Ok, Err, refl, sym, subst, ap}
use Rattle.std.specs.Prelude.{if◌then◌else◌}
use Rattle.base_core.specs.declared.kind.Kind.{Kind}
use Rattle.base_core.specs.declared.refusal_codes.TheConstants as code
use Rattle.base_core.specs.declared.refusals.Stop.{Stop}
use Rattle.bullet_focus.specs.declared.focus.Focused.{Focused}
use Rattle.bullet_focus.specs.FocusState.{FocusState}
use Rattle.bullet_focus.specs.Steps.{replaced, after_bullet, after_brace_open, after_brace_close}
use Rattle.prover_iface.specs.declared.outline.ItemKind.{ItemKind}
use Rattle.prover_iface.specs.declared.outline.ItemKind.TheVariants as item
use Rattle.coq_syntax.specs.CommandTrees.{Constructor, Command}
use Rattle.coq_syntax.specs.CommandTrees as command
use Rattle.coq_syntax.specs.MoveTrees.{Move}
use Rattle.coq_syntax.specs.Trees.{Term, GroupList, Annotation}
use Rattle.core_term.specs.Tree.{Tree}
use Rattle.cic_rules.specs.declared.context.Hyp.{Hyp}
use Rattle.cic_rules.specs.declared.decls.Decl.{Decl}
use Rattle.cic_rules.specs.declared.decls.Decl.TheVariants.{Assume, Define, Admit, Induct}
use Rattle.cic_rules.specs.declared.env.Slot.{Slot}
use Rattle.cic_rules.specs.Contexts.{AreParams}
use Rattle.cic_rules.specs.Declare.{declare_at}
use Rattle.cic_rules.specs.Eliminators.{type_of_decl, argument_name}
use Rattle.cic_rules.specs.Environments.{is_taken, entered, IsEnvironment}
use Rattle.cic_rules.specs.Fuel.{NESTING_LIMIT}
use Rattle.cic_rules.specs.Inductive.{has_twice, any_taken, assumed_type}
use Rattle.cic_rules.specs.Infer.{infer_at}
use Rattle.cic_rules.specs.Judges.{IsTermIn}
use Rattle.cic_rules.specs.Laws.{Tells}
use Rattle.cic_rules.specs.Runs.{Run, give, check_size, forbid}
use Rattle.cic_rules.specs.Scopes.{IsScoped, IsScopedHyp, IsScopedContext}
use Rattle.cic_rules.specs.Steps.{take_step}
use Rattle.cic_rules.proofs.JudgeScopes.{scope_of_inference}
use Rattle.cic_rules.proofs.PlaceLaws.{place_below}
use Rattle.cic_rules.proofs.ScopeLaws.{scoped_free}
use Rattle.cic_rules.proofs.TellsLaws.{tells_give, tells_pure, tells_stop, tells_bind, tells_step, tells_some}
use Rattle.elaborator.specs.declared.binders.Binding.TheVariants.{Product, Function}
use Rattle.elaborator.specs.Elab.{elab, open_groups}
use Rattle.elaborator.specs.Parts.{closed}
use Rattle.elaborator.proofs.InsideLaws.{elab_inside, groups_tell}
use Rattle.fresh_names.specs.Shown.{shown_names}
use Rattle.proof_state.specs.declared.goals.Goal.{Goal}
use Rattle.proof_state.specs.declared.state.Filling.TheVariants as fill
use Rattle.proof_state.specs.IsProof.{IsProof}
use Rattle.proof_state.specs.Proof.{Proof}
use Rattle.proof_state.specs.Scopes.{HaveGoalsIn}
use Rattle.proof_state.specs.Steps.{started, unsolved_at, refined_by, bounded, closed as whole_proof}
use Rattle.proof_state.proofs.GoalScopes.{steps_keep_scopes, fillings_fit}
use Rattle.proof_state.proofs.Keeps.{steps_keep}
use Rattle.vernac_exec.specs.declared.deed.Deed.{Deed}
use Rattle.vernac_exec.specs.declared.deed.Deed.TheVariants.{Declares, Answers, Begins, GoesOn, Passes, Drops}
use Rattle.vernac_exec.specs.declared.reading.Reading.{Reading}
use Rattle.vernac_exec.specs.declared.reading.Reading.TheVariants as read
use Rattle.vernac_exec.specs.declared.state.OpenProof.{OpenProof}
use Rattle.vernac_exec.specs.declared.state.State.{State}
use Rattle.vernac_exec.specs.Families.{family, written_names, elab_constructors}
use Rattle.vernac_exec.specs.Commands.{judgement_text, theorem, named_hyp, named_hyps, declare_as, assume, elab_over, elab_annotation, define, induct, check, begin_proof, obey}
use Rattle.vernac_exec.specs.Proofs.{first_number, context_in_focus, abandoned_if, all_abandoned, refocused, told_of_filling, has_unsolved, prove_at, prove, end_proof, obey_inside}
use Rattle.vernac_exec.specs.Readings.{is_end_of, reading}
use Rattle.vernac_exec.specs.Sentences.{run_outside, run_inside, run_reading, sentence_run}
use Rattle.vernac_exec.specs.States.{passed, with_progress, done, entered_as_admitted, behind}
use Rattle.vernac_exec.specs.Exec.{whole_run}
use Rattle.vernac_exec.specs.Laws.{IsHeldProof, SentencesKeepProofs}
use Rattle.vernac_exec.proofs.PlainGroups.{groups_plain}
use Rattle.vernac_exec.proofs.AllMoves.{move_in}

any : {A : Type 0} (f : Run A) → Tells f (λ _. Unit {0})
any f = record { tells = λ left x e. tt }

-- a proof, with its goals in scope
abbrev IsKept : List Slot → Proof → Type 0
IsKept env p = IsProof p × HaveGoalsIn env p.goals

-- of a deed, the proof that it leaves
abbrev IsDeedKept : List Slot → Deed → Type 0
IsDeedKept env (Begins theorem proof) = IsKept env proof
IsDeedKept env (GoesOn proof focus told) = IsKept env proof
IsDeedKept env _ = Unit {0}

-- names of hypotheses are of no account
named_length : (env : List Slot) (hs : List Hyp) → length (named_hyps env hs) ≡ length hs
named_length env [] = refl
named_length env (h ∷ hs) = ap suc (named_length env hs)

named_plain : (env : List Slot) (hs : List Hyp) → AreParams hs → AreParams (named_hyps env hs)
named_plain env [] plain = tt
named_plain env (h ∷ hs) plain = (plain.0, named_plain env hs plain.1)

named_scoped : (env : List Slot) (hs : List Hyp) → IsScopedContext (length env) hs → IsScopedContext (length env) (named_hyps env hs)
named_scoped env [] scoped = tt
named_scoped env (h ∷ hs) scoped = (
  subst (λ k. IsScopedHyp k (length env) (named_hyp h (argument_name env (shown_names (named_hyps env hs)) h.name h.ty))) (sym (named_length env hs))
      (record { ty = scoped.0.ty; value = scoped.0.value }),
  named_scoped env hs scoped.1,
)

started_kept : (env : List Slot) (inner : List Hyp) (statement : Tree) → AreParams inner → IsScopedContext (length env) inner →
    IsTermIn env inner statement →
    IsKept env (started (named_hyps env inner) statement)
started_kept env inner statement plain hyps scoped =
    let term : IsTermIn env (named_hyps env inner) statement =
    subst (λ k. IsScoped k (length env) statement) (sym (named_length env inner)) scoped in (
      steps_keep.start (named_hyps env inner) statement (named_plain env inner plain)
          (scoped_free (length (named_hyps env inner)) (length env) statement term),
      steps_keep_scopes.start env (named_hyps env inner) statement (record { scoped = named_scoped env inner hyps }) term,
    )

-- goals that are given up
given_kept : (env : List Slot) (p : Proof) (n : ℕ) (x : Option Goal) → x ≡ unsolved_at p.goals n → IsKept env p → IsKept env (abandoned_if x n p)
given_kept env p n None e kept = kept
given_kept env p n (Some g) e kept = (
  steps_keep.step p n fill.Admit _ kept.0 (fillings_fit env p.goals n g fill.Admit e tt) refl,
  steps_keep_scopes.step env g.ctx p n fill.Admit _ tt refl kept.1,
)

all_kept : (env : List Slot) (ns : List ℕ) (p : Proof) → IsKept env p → IsKept env (all_abandoned ns p)
all_kept env [] p kept = kept
all_kept env (n ∷ ns) p kept =
    all_kept env ns (abandoned_if (unsolved_at p.goals n) n p) (given_kept env p n (unsolved_at p.goals n) refl kept)

module _ (env : List Slot) (calls : ℕ) where
  declare_keeps : (kind : ItemKind) (d : Decl) → Tells (declare_as env calls kind d) (IsDeedKept env)
  declare_keeps kind d = tells_bind (any (declare_at env calls d)) (λ made _. tells_pure (Declares kind made) tt)

  assume_keeps : (name : List ℕ) (s : Term) → Tells (assume env calls name s) (IsDeedKept env)
  assume_keeps name s =
      tells_step (forbid (is_taken env name) code.NAME_TAKEN)
      (tells_bind (any (elab env calls [] s)) (λ ty _. declare_keeps item.Axiom (Assume name ty)))

  define_keeps : (name : List ℕ) (groups : GroupList) (a : Annotation) (s : Term) → Tells (define env calls name groups a s) (IsDeedKept env)
  define_keeps name groups a s =
      tells_step (forbid (is_taken env name) code.NAME_TAKEN)
      (tells_bind (any (open_groups env calls [] groups)) (λ inner _. tells_bind (any (elab_annotation env calls inner a)) (λ ty _.
      tells_bind (any (elab_over env calls Function inner s)) (λ value _. declare_keeps item.Definition (Define name ty value false)))))

  induct_keeps : (name : List ℕ) (groups : GroupList) (s : Term) (cs : List Constructor) → Tells (induct env calls name groups s cs) (IsDeedKept env)
  induct_keeps name groups s cs =
      tells_step (forbid (has_twice (written_names name cs)) code.DUPLICATE_NAME)
      (tells_step (forbid (any_taken env (written_names name cs)) code.NAME_TAKEN)
      (tells_bind (any (open_groups env calls [] groups)) (λ params _. tells_bind (any (elab env calls params s)) (λ arity _.
      tells_step (check_size (type_of_decl (family name params arity [])))
      (tells_bind (any (give (entered env (assumed_type (family name params arity []))))) (λ inner _.
      tells_bind (any (elab_constructors inner calls params (length env) [] cs)) (λ ctors _.
      declare_keeps item.Inductive (Induct (family name params arity ctors)))))))))

  check_keeps : (ctx : List Hyp) (s : Term) → Tells (check env calls ctx s) (IsDeedKept env)
  check_keeps ctx s =
      tells_bind (any (elab env calls ctx s)) (λ t _.
      tells_bind (any (infer_at env calls ctx t)) (λ i _. tells_pure (Answers (judgement_text env ctx t i.ty)) tt))

  module _ (is : IsEnvironment env) where
    -- what groups open is plain, and in scope
    opened_well : (gs : GroupList) → Tells (open_groups env calls [] gs) (λ inner. AreParams inner × IsScopedContext (length env) inner)
    opened_well gs = record {
      tells = λ left inner e. (
        (groups_plain env calls [] gs tt).tells left inner e,
        ((groups_tell env place_below calls (λ c h t. scope_of_inference env is calls c h t) [] gs tt).tells left inner e).0,
      );
    }

    begin_keeps : (name : List ℕ) (groups : GroupList) (s : Term) → Tells (begin_proof env calls name groups s) (IsDeedKept env)
    begin_keeps name groups s =
        tells_step (forbid (is_taken env name) code.NAME_TAKEN)
        (tells_bind (opened_well groups) (λ inner well. tells_bind (elab_inside env is calls inner s well.1) (λ statement scoped.
        tells_bind (any (take_step (closed Product inner statement))) (λ ty _. tells_bind (any (declare_at env calls (Admit name ty))) (λ admitted _.
        tells_pure (Begins (theorem name ty admitted) (started (named_hyps env inner) statement)) (started_kept env inner statement well.0 well.1 scoped))))))

    obey_keeps : (c : Command) → Tells (obey env calls c) (IsDeedKept env)
    unfolding obey
    obey_keeps (command.Assume word keyword name colon ty) = assume_keeps name.text ty
    obey_keeps (command.Define keyword name groups annotation assign value) = define_keeps name.text groups annotation value
    obey_keeps (command.State word keyword name groups colon ty) = begin_keeps name.text groups ty
    obey_keeps (command.Inductive keyword name groups colon arity assign constructors) = induct_keeps name.text groups arity constructors
    obey_keeps (command.Check keyword term) = check_keeps [] term
    obey_keeps (command.Proof place) = tells_stop _
    obey_keeps (command.Qed place) = tells_stop _
    obey_keeps (command.Defined place) = tells_stop _
    obey_keeps (command.Admitted place) = tells_stop _
    obey_keeps (command.Aborted place) = tells_stop _

    outside_keeps : (r : Reading) → Tells (run_outside env calls r) (IsDeedKept env)
    outside_keeps (read.Command c) = obey_keeps c
    outside_keeps (read.Move m) = tells_stop _
    outside_keeps (read.Bullet mark count) = tells_stop _
    outside_keeps read.OpenBrace = tells_stop _
    outside_keeps read.CloseBrace = tells_stop _

    module _ (o : OpenProof) (kept : IsKept env o.proof) where
      prove_at_keeps : (n : ℕ) (g : Goal) (m : Move) → unsolved_at o.proof.goals n ≡ Some g → Tells (prove_at env calls o n g m) (IsDeedKept env)
      prove_at_keeps n g m found =
          tells_bind (move_in env is calls g m (steps_keep_scopes.unsolved env o.proof.goals n g kept.1 (sym found))) (λ by filling.
          tells_bind (tells_give (refined_by o.proof n by) (λ r e. e)) (λ r made.
          tells_pure (GoesOn r.proof (replaced r.goals o.focus) (told_of_filling by)) (
            steps_keep.step o.proof n by r kept.0 (fillings_fit env o.proof.goals n g by (sym found) filling) made,
            steps_keep_scopes.step env g.ctx o.proof n by r filling made kept.1,
          )))

      prove_keeps : (m : Move) → Tells (prove env calls o m) (IsDeedKept env)
      prove_keeps m =
          tells_bind (tells_some code.NO_GOAL (first_number o) (λ n e. e)) (λ n _.
          tells_bind (tells_some code.NO_GOAL (unsolved_at o.proof.goals n) (λ g e. e)) (λ g found. prove_at_keeps n g m found))

      end_keeps : (opaque : Bool) → Tells (end_proof env calls opaque o) (IsDeedKept env)
      end_keeps opaque =
          tells_step (forbid (has_unsolved o.proof.goals) code.GOALS_REMAIN)
          (tells_step (forbid (nat_lt 0 (length o.proof.given_up)) code.ADMITTED_GOALS)
          (tells_bind (any (give (bounded (whole_proof o.proof)))) (λ t _.
          declare_keeps item.Theorem (Define o.theorem.name (Some o.theorem.ty) t opaque))))

      step_keeps : (step : Focused) → IsDeedKept env (refocused o step)
      step_keeps step = all_kept env step.admitted o.proof kept

      inside_keeps : (c : Command) → Tells (obey_inside env calls o c) (IsDeedKept env)
      unfolding obey_inside
      inside_keeps (command.Assume word keyword name colon ty) = tells_stop _
      inside_keeps (command.Define keyword name groups annotation assign value) = tells_stop _
      inside_keeps (command.State word keyword name groups colon ty) = tells_stop _
      inside_keeps (command.Inductive keyword name groups colon arity assign constructors) = tells_stop _
      inside_keeps (command.Check keyword term) = check_keeps (context_in_focus o) term
      inside_keeps (command.Proof place) = tells_pure Passes tt
      inside_keeps (command.Qed place) = end_keeps true
      inside_keeps (command.Defined place) = end_keeps false
      inside_keeps (command.Admitted place) = tells_pure (Declares item.Admitted o.theorem.admitted) tt
      inside_keeps (command.Aborted place) = tells_pure Drops tt

      run_inside_keeps : (r : Reading) → Tells (run_inside env calls o r) (IsDeedKept env)
      run_inside_keeps (read.Command c) = inside_keeps c
      run_inside_keeps (read.Move m) = prove_keeps m
      run_inside_keeps (read.Bullet mark count) = tells_pure _ (step_keeps (after_bullet mark count o.focus))
      run_inside_keeps read.OpenBrace = tells_pure _ (step_keeps (after_brace_open o.focus))
      run_inside_keeps read.CloseBrace = tells_pure _ (step_keeps (after_brace_close o.focus))

    reading_keeps : (opened : Option OpenProof) → IsHeldProof env opened → (r : Reading) → Tells (run_reading env calls opened r) (IsDeedKept env)
    reading_keeps None held r = outside_keeps r
    reading_keeps (Some o) held r = run_inside_keeps o held r

    sentence_keeps : (opened : Option OpenProof) → IsHeldProof env opened → (kind : Kind) (text : List ℕ) →
        Tells (sentence_run env calls opened kind text) (IsDeedKept env)
    unfolding sentence_run
    sentence_keeps opened held kind text = tells_bind (any (give (reading kind text))) (λ r _. reading_keeps opened held r)

-- the proof under way after a step
progress_held : (env : List Slot) (opened : Option OpenProof) (proof : Proof) (focus : FocusState) → IsKept env proof →
    IsHeldProof env (with_progress opened proof focus)
progress_held env None proof focus kept = tt
progress_held env (Some o) proof focus kept = kept

done_held : (m : State) (deed : Deed) → IsDeedKept m.env deed → IsHeldProof m.env m.opened → IsHeldProof (done m deed).env (done m deed).opened
done_held m (Declares kind made) kept held = tt
done_held m (Answers text) kept held = held
done_held m (Begins theorem proof) kept held = kept
done_held m (GoesOn proof focus told) kept held = progress_held m.env m.opened proof focus kept
done_held m Passes kept held = held
done_held m Drops kept held = tt

admitted_held : (m : State) (opened : Option OpenProof) → IsHeldProof m.env m.opened →
    IsHeldProof (entered_as_admitted m opened).env (entered_as_admitted m opened).opened
admitted_held m None held = held
admitted_held m (Some o) held = tt

refused_held : (m : State) (b : Bool) → IsHeldProof m.env m.opened →
    IsHeldProof (if b then entered_as_admitted m m.opened else passed m).env (if b then entered_as_admitted m m.opened else passed m).opened
refused_held m true held = admitted_held m m.opened held
refused_held m false held = held

behind_held : (m : State) (r : Result Reading Stop) (answer : Result Deed Stop) → ((deed : Deed) → answer ≡ Ok deed → IsDeedKept m.env deed) →
    IsHeldProof m.env m.opened → IsHeldProof (behind m r answer).env (behind m r answer).opened
behind_held m r (Ok deed) kept held = done_held m deed (kept deed refl) held
behind_held m r (Err stop) kept held = refused_held m (is_end_of r) held

pub sentences_keep_proofs : SentencesKeepProofs
sentences_keep_proofs m s is held =
    behind_held m (reading s.kind s.text) (whole_run m s).answer
    (λ deed e. (sentence_keeps m.env NESTING_LIMIT is m.opened held s.kind s.text).tells _ deed e) held

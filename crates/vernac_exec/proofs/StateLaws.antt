-- What a sentence leaves.
use Rattle.std.proofs.Common.{◌≡◌, ℕ, ◌+◌, ◌^◌, nat_le, nat_lt, List, [], ◌∷◌, ◌++◌, length, Bool, true, false, Option, Some, None, Result, Ok, Err, refl, subst, ap}
use Rattle.std.specs.Prelude.{if◌then◌else◌}
use Rattle.base_core.specs.declared.kind.Kind.{Kind}
use Rattle.base_core.specs.declared.refusal_codes.TheConstants as code
use Rattle.base_core.specs.declared.refusals.Stop.{Stop}
use Rattle.base_core.specs.declared.refusals.Stop.TheVariants.{Out}
use Rattle.base_core.specs.declared.refusals.Limit.TheVariants.{SizeLimit}
use Rattle.prover_iface.specs.declared.outline.ItemKind.{ItemKind}
use Rattle.prover_iface.specs.declared.outline.ItemKind.TheVariants as item
use Rattle.prover_iface.specs.Sentences.{Sentence as Piece}
use Rattle.coq_syntax.specs.Trees.{Term, GroupList, Annotation}
use Rattle.coq_syntax.specs.CommandTrees.{Constructor, Command}
use Rattle.coq_syntax.specs.CommandTrees as command
use Rattle.coq_syntax.specs.MoveTrees.{Move}
use Rattle.core_term.specs.Tree.{Tree}
use Rattle.cic_rules.specs.declared.context.Hyp.{Hyp}
use Rattle.cic_rules.specs.declared.decls.Decl.{Decl}
use Rattle.cic_rules.specs.declared.decls.Decl.TheVariants.{Assume, Define, Admit, Induct}
use Rattle.cic_rules.specs.declared.decls.InductiveDecl.{InductiveDecl}
use Rattle.cic_rules.specs.declared.entries.Entry.{Entry}
use Rattle.cic_rules.specs.declared.entries.EntryKind.{EntryKind}
use Rattle.cic_rules.specs.declared.entries.EntryKind.TheVariants.{Assumed, Admitted, Defined}
use Rattle.cic_rules.specs.declared.env.Slot.{Slot}
use Rattle.cic_rules.specs.Environments.{is_taken, own_slot, slotted, entered, all_entered, IsEnvironment}
use Rattle.cic_rules.specs.Eliminators.{type_of_decl}
use Rattle.cic_rules.specs.Fuel.{NESTING_LIMIT}
use Rattle.cic_rules.specs.Infer.{infer_at, sort_of_at, check_at}
use Rattle.cic_rules.specs.Inductive.{has_twice, any_taken, assumed_type, check_inductive_at}
use Rattle.cic_rules.specs.Declare.{enter, assume as assume_at, define as define_at, eliminators, declare_at}
use Rattle.cic_rules.specs.Laws.{Tells}
use Rattle.cic_rules.specs.Runs.{Run, give, check_size, forbid, some_or}
use Rattle.cic_rules.specs.Steps.{take_step}
use Rattle.cic_rules.proofs.TellsLaws.{tells_give, tells_pure, tells_stop, tells_bind, tells_step}
use Rattle.cic_rules.proofs.DeclareLaws.{declare_keeps}
use Rattle.elaborator.specs.Elab.{elab, open_groups}
use Rattle.elaborator.specs.declared.binders.Binding.TheVariants.{Product, Function}
use Rattle.elaborator.specs.Parts.{closed}
use Rattle.bullet_focus.specs.declared.focus.Focused.{Focused}
use Rattle.bullet_focus.specs.FocusState.{FocusState}
use Rattle.bullet_focus.specs.Laws.{all_goals}
use Rattle.bullet_focus.specs.Steps.{begun, replaced, after_bullet, after_brace_open, after_brace_close}
use Rattle.bullet_focus.proofs.GoalLaws.{bullets_keep, braces_keep}
use Rattle.proof_state.specs.declared.goals.Goal.{Goal}
use Rattle.proof_state.specs.Proof.{Proof}
use Rattle.proof_state.specs.Steps.{started, unsolved_at, refined_by, bounded, closed as whole_proof}
use Rattle.vernac_exec.specs.declared.deed.Deed.{Deed}
use Rattle.vernac_exec.specs.declared.deed.Deed.TheVariants.{Declares, Answers, Begins as Starts, GoesOn as Continues, Passes as LeavesAll, Drops as GivesUp}
use Rattle.vernac_exec.specs.declared.reading.Reading.{Reading}
use Rattle.vernac_exec.specs.declared.reading.Reading.TheVariants as read
use Rattle.vernac_exec.specs.declared.state.Theorem.{Theorem}
use Rattle.vernac_exec.specs.declared.state.OpenProof.{OpenProof}
use Rattle.vernac_exec.specs.declared.state.State.{State}
use Rattle.vernac_exec.specs.Families.{family, written_names, elab_constructors}
use Rattle.vernac_exec.specs.Commands.{judgement_text, theorem, named_hyps, declare_as, assume, elab_over, elab_annotation, define, elab_family, induct, check, begin_proof, obey}
use Rattle.vernac_exec.specs.Proofs.{first_number, context_in_focus, refocused, told_of_filling, has_unsolved, run_move, prove_at, prove, end_proof, obey_inside}
use Rattle.vernac_exec.specs.Readings.{is_end_of, reading}
use Rattle.vernac_exec.specs.Sentences.{run_outside, run_inside, run_reading, sentence_run}
use Rattle.vernac_exec.specs.States.{passed, done, entered_as_admitted, behind, with_progress}
use Rattle.vernac_exec.specs.Exec.{whole_run}
use Rattle.vernac_exec.specs.Laws.{Adds, Follows, Passes, Enters, Begins as Starting, GoesOn, Drops, PutsBy, Agrees, IsUnderWay, IsReached, SentencesKeepStates}
use Rattle.vernac_exec.proofs.FocusLaws.{refocused_agree, refined_agree, begun_agrees}

-- of a run of which nothing is needed
any : {A : Type 0} (f : Run A) → Tells f (λ _. Unit {0})
any f = record { tells = λ left x e. tt }

room_by : (b : Bool) (x made : List Slot) → (if b then Ok x else Err (Out SizeLimit)) ≡ Ok made → made ≡ x
room_by true x made e = cc
room_by false x made e = cc

all_add : (env : List Slot) (first : Slot) (more made : List Slot) → all_entered env (first ∷ more) ≡ Ok made → Adds env made
all_add env first more made e =
    record { first = first; more = more; parts = room_by (nat_le (length env + length (first ∷ more)) (2 ^ 31)) (env ++ first ∷ more) made e }

-- a list with a first item
record Begins {A : Type 0} (xs : List A) : Type 0 where
  first : A
  more : List A
  parts : xs ≡ first ∷ more

begins_by : (b : Bool) (first : Entry) (more entries : List Entry) → (if b then Ok (first ∷ more) else Err (Out SizeLimit)) ≡ Ok entries → Begins entries
begins_by true first more entries e = record { first = first; more = more; parts = cc }
begins_by false first more entries e = let none : ⊥ = cc in absurd none

slotted_add : (env : List Slot) (d : InductiveDecl) (entries : List Entry) → Begins entries → (made : List Slot) →
    all_entered env (slotted (Some d) entries) ≡ Ok made → Adds env made
slotted_add env d entries begins made e =
    all_add env (record { entry = begins.first; decl = Some d }) (slotted None begins.more) made
    (subst (λ es. all_entered env (slotted (Some d) es) ≡ Ok made) begins.parts e)

-- what is declared stands behind what was there
module _ (env : List Slot) (calls : ℕ) where
  enter_adds : (name : List ℕ) (ty : Tree) (kind : EntryKind) (used : List ℕ) → Tells (enter env name ty kind used) (Adds env)
  enter_adds name ty kind used =
      tells_give (entered env (record { name = name; ty = ty; kind = kind; used = used }))
      (λ made e. all_add env (own_slot (record { name = name; ty = ty; kind = kind; used = used })) [] made e)

  assume_adds : (name : List ℕ) (ty : Tree) (kind : EntryKind) → Tells (assume_at env calls name ty kind) (Adds env)
  assume_adds name ty kind = tells_bind (any (sort_of_at env calls [] ty)) (λ s _. enter_adds name ty kind s.used)

  define_adds : (name : List ℕ) (ty : Option Tree) (body : Tree) (kind : EntryKind) → Tells (define_at env calls name ty body kind) (Adds env)
  define_adds name (Some ty) body kind =
      tells_bind (any (sort_of_at env calls [] ty)) (λ s _. tells_bind (any (check_at env calls [] body ty)) (λ used _. enter_adds name ty kind _))
  define_adds name None body kind =
      tells_bind (any (infer_at env calls [] body)) (λ i _. tells_bind (any (sort_of_at env calls [] i.ty)) (λ s _. enter_adds name i.ty kind _))

  declare_adds : (d : Decl) → Tells (declare_at env calls d) (Adds env)
  unfolding declare_at
  declare_adds (Assume name ty) = tells_step (forbid (is_taken env name) 25) (assume_adds name ty Assumed)
  declare_adds (Admit name ty) = tells_step (forbid (is_taken env name) 25) (assume_adds name ty Admitted)
  declare_adds (Define name ty body opaque) = tells_step (forbid (is_taken env name) 25) (define_adds name ty body (Defined body opaque))
  declare_adds (Induct d) =
      tells_bind (any (check_inductive_at env calls d)) (λ c _. tells_bind (tells_give (eliminators env c) (λ entries e. begins_by _ _ _ entries e))
      (λ entries begins. tells_give (all_entered env (slotted (Some d) entries)) (λ made e. slotted_add env d entries begins made e)))

-- a value that must be there
there : {A : Type 0} (number : ℕ) (found : Option A) → Tells (some_or number found) (λ x. found ≡ Some x)
there number None = tells_stop _
there number (Some x) = tells_pure x refl

-- the proof under way after a step: its focus agrees with its goals, if it did
record IsStep (opened : Option OpenProof) (proof : Proof) (focus : FocusState) : Type 0 where
  before : OpenProof
  is : opened ≡ Some before
  agrees : Agrees before.proof.goals before.focus → Agrees proof.goals focus

-- a proof that is begun, of a theorem that is put by
record IsBegun (env : List Slot) (opened : Option OpenProof) (theorem : Theorem) (proof : Proof) : Type 0 where
  none : opened ≡ None
  adds : Adds env theorem.admitted
  environment : IsEnvironment env → IsEnvironment theorem.admitted
  agrees : Agrees proof.goals (begun 0)

-- what a deed leaves of an environment, and of the proof under way
abbrev IsDeedOf : List Slot → Option OpenProof → Deed → Type 0
IsDeedOf env opened (Declares kind made) = Adds env made × (IsEnvironment env → IsEnvironment made)
IsDeedOf env opened (Answers text) = Unit {0}
IsDeedOf env opened (Starts theorem proof) = IsBegun env opened theorem proof
IsDeedOf env opened (Continues proof focus told) = IsStep opened proof focus
IsDeedOf env opened LeavesAll = Unit {0}
IsDeedOf env opened GivesUp = Unit {0}

module _ (env : List Slot) (calls : ℕ) where
  both : (d : Decl) → Tells (declare_at env calls d) (λ made. Adds env made × (IsEnvironment env → IsEnvironment made))
  both d = record { tells = λ left made e. ((declare_adds env calls d).tells left made e, λ is. (declare_keeps env is calls d).tells left made e) }

  declare_does : (opened : Option OpenProof) (kind : ItemKind) (d : Decl) → Tells (declare_as env calls kind d) (IsDeedOf env opened)
  declare_does opened kind d = tells_bind (both d) (λ made h. tells_pure (Declares kind made) h)

  assume_does : (name : List ℕ) (s : Term) → Tells (assume env calls name s) (IsDeedOf env None)
  assume_does name s =
      tells_step (forbid (is_taken env name) code.NAME_TAKEN)
      (tells_bind (any (elab env calls [] s)) (λ ty _. declare_does None item.Axiom (Assume name ty)))

  define_does : (name : List ℕ) (groups : GroupList) (a : Annotation) (s : Term) → Tells (define env calls name groups a s) (IsDeedOf env None)
  define_does name groups a s =
      tells_step (forbid (is_taken env name) code.NAME_TAKEN)
      (tells_bind (any (open_groups env calls [] groups)) (λ inner _. tells_bind (any (elab_annotation env calls inner a)) (λ ty _.
      tells_bind (any (elab_over env calls Function inner s)) (λ value _. declare_does None item.Definition (Define name ty value false)))))

  family_does : (name : List ℕ) (params : List Hyp) (arity : Tree) (cs : List Constructor) →
      Tells (elab_family env calls name params arity cs) (IsDeedOf env None)
  family_does name params arity cs =
      tells_step (check_size (type_of_decl (family name params arity [])))
      (tells_bind (any (give (entered env (assumed_type (family name params arity []))))) (λ inner _.
      tells_bind (any (elab_constructors inner calls params (length env) [] cs)) (λ ctors _.
      declare_does None item.Inductive (Induct (family name params arity ctors)))))

  induct_does : (name : List ℕ) (groups : GroupList) (s : Term) (cs : List Constructor) → Tells (induct env calls name groups s cs) (IsDeedOf env None)
  induct_does name groups s cs =
      tells_step (forbid (has_twice (written_names name cs)) code.DUPLICATE_NAME)
      (tells_step (forbid (any_taken env (written_names name cs)) code.NAME_TAKEN)
      (tells_bind (any (open_groups env calls [] groups)) (λ params _.
      tells_bind (any (elab env calls params s)) (λ arity _. family_does name params arity cs))))

  check_does : (opened : Option OpenProof) (ctx : List Hyp) (s : Term) → Tells (check env calls ctx s) (IsDeedOf env opened)
  check_does opened ctx s =
      tells_bind (any (elab env calls ctx s)) (λ t _.
      tells_bind (any (infer_at env calls ctx t)) (λ i _. tells_pure (Answers (judgement_text env ctx t i.ty)) tt))

  begin_does : (name : List ℕ) (groups : GroupList) (s : Term) → Tells (begin_proof env calls name groups s) (IsDeedOf env None)
  begin_does name groups s =
      tells_step (forbid (is_taken env name) code.NAME_TAKEN)
      (tells_bind (any (open_groups env calls [] groups)) (λ inner _. tells_bind (any (elab env calls inner s)) (λ statement _.
      tells_bind (any (take_step (closed Product inner statement))) (λ ty _. tells_bind (both (Admit name ty)) (λ admitted h.
      tells_pure (Starts (theorem name ty admitted) (started (named_hyps env inner) statement))
      (record { none = refl; adds = h.0; environment = h.1; agrees = begun_agrees (record { ctx = named_hyps env inner; ty = statement }) }))))))

  obey_does : (c : Command) → Tells (obey env calls c) (IsDeedOf env None)
  unfolding obey
  obey_does (command.Assume word keyword name colon ty) = assume_does name.text ty
  obey_does (command.Define keyword name groups annotation assign value) = define_does name.text groups annotation value
  obey_does (command.State word keyword name groups colon ty) = begin_does name.text groups ty
  obey_does (command.Inductive keyword name groups colon arity assign constructors) = induct_does name.text groups arity constructors
  obey_does (command.Check keyword term) = check_does None [] term
  obey_does (command.Proof place) = tells_stop _
  obey_does (command.Qed place) = tells_stop _
  obey_does (command.Defined place) = tells_stop _
  obey_does (command.Admitted place) = tells_stop _
  obey_does (command.Aborted place) = tells_stop _

  outside_does : (r : Reading) → Tells (run_outside env calls r) (IsDeedOf env None)
  outside_does (read.Command c) = obey_does c
  outside_does (read.Move m) = tells_stop _
  outside_does (read.Bullet mark count) = tells_stop _
  outside_does read.OpenBrace = tells_stop _
  outside_does read.CloseBrace = tells_stop _

  module _ (o : OpenProof) (put : PutsBy env (Some o)) where
    prove_at_does : (n : ℕ) (g : Goal) (m : Move) → first_number o ≡ Some n → unsolved_at o.proof.goals n ≡ Some g →
        Tells (prove_at env calls o n g m) (IsDeedOf env (Some o))
    prove_at_does n g m first is =
        tells_bind (any (run_move env calls g m)) (λ by _. tells_bind (tells_give (refined_by o.proof n by) (λ r e. e)) (λ r made.
        tells_pure (Continues r.proof (replaced r.goals o.focus) (told_of_filling by))
        (record { before = o; is = refl; agrees = λ h. refined_agree o.proof o.focus n g by r first is made h })))

    prove_does : (m : Move) → Tells (prove env calls o m) (IsDeedOf env (Some o))
    prove_does m =
        tells_bind (there code.NO_GOAL (first_number o)) (λ n first.
        tells_bind (there code.NO_GOAL (unsolved_at o.proof.goals n)) (λ g is. prove_at_does n g m first is))

    end_does : (opaque : Bool) → Tells (end_proof env calls opaque o) (IsDeedOf env (Some o))
    end_does opaque =
        tells_step (forbid (has_unsolved o.proof.goals) code.GOALS_REMAIN)
        (tells_step (forbid (nat_lt 0 (length o.proof.given_up)) code.ADMITTED_GOALS)
        (tells_bind (any (give (bounded (whole_proof o.proof)))) (λ t _.
        declare_does (Some o) item.Theorem (Define o.theorem.name (Some o.theorem.ty) t opaque))))

    step_does : (step : Focused) → step.admitted ++ all_goals step.focus ≡ all_goals o.focus → IsDeedOf env (Some o) (refocused o step)
    step_does step keeps = record { before = o; is = refl; agrees = λ h. refocused_agree o.proof o.focus step keeps h }

    inside_does : (c : Command) → Tells (obey_inside env calls o c) (IsDeedOf env (Some o))
    unfolding obey_inside
    inside_does (command.Assume word keyword name colon ty) = tells_stop _
    inside_does (command.Define keyword name groups annotation assign value) = tells_stop _
    inside_does (command.State word keyword name groups colon ty) = tells_stop _
    inside_does (command.Inductive keyword name groups colon arity assign constructors) = tells_stop _
    inside_does (command.Check keyword term) = check_does (Some o) (context_in_focus o) term
    inside_does (command.Proof place) = tells_pure LeavesAll tt
    inside_does (command.Qed place) = end_does true
    inside_does (command.Defined place) = end_does false
    inside_does (command.Admitted place) = tells_pure (Declares item.Admitted o.theorem.admitted) (put.0, λ _. put.1)
    inside_does (command.Aborted place) = tells_pure GivesUp tt

    run_inside_does : (r : Reading) → Tells (run_inside env calls o r) (IsDeedOf env (Some o))
    run_inside_does (read.Command c) = inside_does c
    run_inside_does (read.Move m) = prove_does m
    run_inside_does (read.Bullet mark count) = tells_pure _ (step_does (after_bullet mark count o.focus) (bullets_keep mark count o.focus))
    run_inside_does read.OpenBrace = tells_pure _ (step_does (after_brace_open o.focus) (braces_keep o.focus).0)
    run_inside_does read.CloseBrace = tells_pure _ (step_does (after_brace_close o.focus) (braces_keep o.focus).1)

  reading_does : (opened : Option OpenProof) → PutsBy env opened → (r : Reading) → Tells (run_reading env calls opened r) (IsDeedOf env opened)
  reading_does None put r = outside_does r
  reading_does (Some o) put r = run_inside_does o put r

  sentence_does : (opened : Option OpenProof) → PutsBy env opened → (kind : Kind) (text : List ℕ) →
      Tells (sentence_run env calls opened kind text) (IsDeedOf env opened)
  unfolding sentence_run
  sentence_does opened put kind text = tells_bind (any (give (reading kind text))) (λ r _. reading_does opened put r)

-- what is known of a sentence's deed
abbrev Told : State → Result Deed Stop → Type 0
Told m answer = (deed : Deed) → answer ≡ Ok deed → IsDeedOf m.env m.opened deed

does : (m : State) (s : Piece) → PutsBy m.env m.opened → Told m (whole_run m s).answer
does m s put deed e = (sentence_does m.env NESTING_LIMIT m.opened put s.kind s.text).tells _ deed e

done_follows : (m : State) (deed : Deed) → IsDeedOf m.env m.opened deed → Follows m (done m deed)
done_follows m (Declares kind made) h = Enters kind made h.0 refl
done_follows m (Answers text) h = Passes refl
done_follows m (Starts theorem proof) h = Starting theorem proof h.none h.adds refl
done_follows m (Continues proof focus told) h = GoesOn h.before proof focus h.is refl
done_follows m LeavesAll h = Passes refl
done_follows m GivesUp h = Drops refl

admitted_follows : (m : State) (opened : Option OpenProof) → PutsBy m.env opened → Follows m (entered_as_admitted m opened)
admitted_follows m None put = Passes refl
admitted_follows m (Some o) put = Enters item.Admitted o.theorem.admitted put.0 refl

refused_follows : (m : State) (b : Bool) → PutsBy m.env m.opened → Follows m (if b then entered_as_admitted m m.opened else passed m)
refused_follows m true put = admitted_follows m m.opened put
refused_follows m false put = Passes refl

follows_by : (m : State) (r : Result Reading Stop) (answer : Result Deed Stop) → PutsBy m.env m.opened → Told m answer → Follows m (behind m r answer)
follows_by m r (Ok deed) put h = done_follows m deed (h deed refl)
follows_by m r (Err stop) put h = refused_follows m (is_end_of r) put

-- the proof under way after a step
with_put : (env : List Slot) (opened : Option OpenProof) (before : OpenProof) (proof : Proof) (focus : FocusState) → opened ≡ Some before →
    PutsBy env opened → PutsBy env (with_progress opened proof focus)
with_put env None before proof focus is put = cc
with_put env (Some o) before proof focus is put = put

with_agrees : (opened : Option OpenProof) (proof : Proof) (focus : FocusState) → IsStep opened proof focus → IsUnderWay opened →
    IsUnderWay (with_progress opened proof focus)
with_agrees None proof focus step h = tt
with_agrees (Some o) proof focus step h =
    let same : o ≡ step.before = cc in step.agrees (subst (λ x. Agrees x.proof.goals x.focus) same h)

done_reached : (m : State) (deed : Deed) → IsDeedOf m.env m.opened deed → IsReached m → IsReached (done m deed)
done_reached m (Declares kind made) h is = record { environment = h.1 is.environment; put_by = tt; under_way = tt }
done_reached m (Answers text) h is = record { environment = is.environment; put_by = is.put_by; under_way = is.under_way }
done_reached m (Starts theorem proof) h is =
    record { environment = is.environment; put_by = (h.adds, h.environment is.environment); under_way = h.agrees }
done_reached m (Continues proof focus told) h is = record {
  environment = is.environment;
  put_by = with_put m.env m.opened h.before proof focus h.is is.put_by;
  under_way = with_agrees m.opened proof focus h is.under_way;
}
done_reached m LeavesAll h is = record { environment = is.environment; put_by = is.put_by; under_way = is.under_way }
done_reached m GivesUp h is = record { environment = is.environment; put_by = tt; under_way = tt }

passed_reached : (m : State) → IsReached m → IsReached (passed m)
passed_reached m is = record { environment = is.environment; put_by = is.put_by; under_way = is.under_way }

admitted_reached : (m : State) (opened : Option OpenProof) → PutsBy m.env opened → IsReached m → IsReached (entered_as_admitted m opened)
admitted_reached m None put is = passed_reached m is
admitted_reached m (Some o) put is = record { environment = put.1; put_by = tt; under_way = tt }

refused_reached : (m : State) (b : Bool) → IsReached m → IsReached (if b then entered_as_admitted m m.opened else passed m)
refused_reached m true is = admitted_reached m m.opened is.put_by is
refused_reached m false is = passed_reached m is

reached_by : (m : State) (r : Result Reading Stop) (answer : Result Deed Stop) → Told m answer → IsReached m → IsReached (behind m r answer)
reached_by m r (Ok deed) h is = done_reached m deed (h deed refl) is
reached_by m r (Err stop) h is = refused_reached m (is_end_of r) is

-- environments alone
done_keeps : (m : State) (deed : Deed) → IsDeedOf m.env m.opened deed → IsEnvironment m.env → IsEnvironment (done m deed).env
done_keeps m (Declares kind made) h is = h.1 is
done_keeps m (Answers text) h is = is
done_keeps m (Starts theorem proof) h is = is
done_keeps m (Continues proof focus told) h is = is
done_keeps m LeavesAll h is = is
done_keeps m GivesUp h is = is

admitted_keeps : (m : State) (opened : Option OpenProof) → PutsBy m.env opened → IsEnvironment m.env → IsEnvironment (entered_as_admitted m opened).env
admitted_keeps m None put is = is
admitted_keeps m (Some o) put is = put.1

refused_keeps : (m : State) (b : Bool) → PutsBy m.env m.opened → IsEnvironment m.env →
    IsEnvironment (if b then entered_as_admitted m m.opened else passed m).env
refused_keeps m true put is = admitted_keeps m m.opened put is
refused_keeps m false put is = is

keeps_by : (m : State) (r : Result Reading Stop) (answer : Result Deed Stop) → PutsBy m.env m.opened → Told m answer → IsEnvironment m.env →
    IsEnvironment (behind m r answer).env
keeps_by m r (Ok deed) put h is = done_keeps m deed (h deed refl) is
keeps_by m r (Err stop) put h is = refused_keeps m (is_end_of r) put is

pub sentences_keep_states : SentencesKeepStates
sentences_keep_states =
    record {
      first = λ env is. record { environment = is; put_by = tt; under_way = tt };
      keeps = λ m s is. reached_by m (reading s.kind s.text) (whole_run m s).answer (does m s is.put_by) is;
      follows = λ m s put. follows_by m (reading s.kind s.text) (whole_run m s).answer put (does m s put);
      refusals = λ m s stop e. ap (behind m (reading s.kind s.text)) e;
      environments = λ m s is put. keeps_by m (reading s.kind s.text) (whole_run m s).answer put (does m s put) is;
    }

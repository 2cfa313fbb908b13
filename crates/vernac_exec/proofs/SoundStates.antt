-- What a sentence leaves is sound.
use Rattle.std.proofs.Common.{◌≡◌, ℕ, zero, suc, ◌+◌, ◌^◌, ◌<◌, nat_le, nat_lt, List, [], ◌∷◌, ◌++◌, length, Bool, true, false, Option, Some, None, Result, Ok, Err, refl, sym, ◌∙◌, subst, All, arith}
use Rattle.std.specs.Prelude.{if◌then◌else◌}
use Rattle.std.proofs.lemmas.List.Elements.{All-push}
use Rattle.base_core.specs.declared.kind.Kind.{Kind}
use Rattle.base_core.specs.declared.refusal_codes.TheConstants as code
use Rattle.base_core.specs.declared.refusals.Stop.{Stop}
use Rattle.base_core.specs.declared.refusals.Stop.TheVariants.{Out}
use Rattle.base_core.specs.declared.refusals.Limit.TheVariants.{SizeLimit}
use Rattle.prover_iface.specs.declared.outline.ItemKind.{ItemKind}
use Rattle.prover_iface.specs.declared.outline.ItemKind.TheVariants as item
use Rattle.coq_syntax.specs.Trees.{Term, GroupList, Annotation}
use Rattle.coq_syntax.specs.CommandTrees.{Constructor, Command}
use Rattle.coq_syntax.specs.CommandTrees as command
use Rattle.coq_syntax.specs.MoveTrees.{Move}
use Rattle.core_term.specs.Tree.{Tree}
use Rattle.cic_rules.specs.declared.context.Hyp.{Hyp}
use Rattle.cic_rules.specs.declared.decls.Decl.{Decl}
use Rattle.cic_rules.specs.declared.decls.Decl.TheVariants.{Assume, Define, Admit, Induct}
use Rattle.cic_rules.specs.declared.decls.InductiveDecl.{InductiveDecl}
use Rattle.cic_rules.specs.declared.entries.Entry.{Entry}
use Rattle.cic_rules.specs.declared.entries.EntryKind.{EntryKind}
use Rattle.cic_rules.specs.declared.entries.EntryKind.TheVariants.{Assumed, Admitted, Defined}
use Rattle.cic_rules.specs.declared.env.Slot.{Slot}
use Rattle.cic_rules.specs.Environments.{is_taken, own_slot, slotted, entered, all_entered}
use Rattle.cic_rules.specs.Eliminators.{type_of_decl}
use Rattle.cic_rules.specs.Fuel.{NESTING_LIMIT}
use Rattle.cic_rules.specs.Grounded.{is_assumption, axioms, IsGrounded}
use Rattle.cic_rules.specs.Infer.{infer_at, sort_of_at, check_at}
use Rattle.cic_rules.specs.Inductive.{has_twice, any_taken, assumed_type, check_inductive_at}
use Rattle.cic_rules.specs.Declare.{enter, assume as assume_at, define as define_at, eliminators, declare_at}
use Rattle.cic_rules.specs.Laws.{Tells}
use Rattle.cic_rules.specs.Runs.{Run, give, check_size, forbid, some_or}
use Rattle.cic_rules.specs.Steps.{take_step}
use Rattle.cic_rules.specs.WellFormed.{WfEnv}
use Rattle.cic_rules.proofs.TellsLaws.{tells_give, tells_pure, tells_stop, tells_bind, tells_step}
use Rattle.cic_soundness.proofs.DeclareSound.{declare_keeps_form}
use Rattle.cic_soundness.proofs.GroundedSound.{entries_are_grounded}
use Rattle.elaborator.specs.Elab.{elab, open_groups}
use Rattle.elaborator.specs.declared.binders.Binding.TheVariants.{Product, Function}
use Rattle.elaborator.specs.Parts.{closed}
use Rattle.bullet_focus.specs.FocusState.{FocusState}
use Rattle.bullet_focus.specs.Steps.{replaced, after_bullet, after_brace_open, after_brace_close}
use Rattle.proof_state.specs.declared.goals.Goal.{Goal}
use Rattle.proof_state.specs.Proof.{Proof}
use Rattle.proof_state.specs.Steps.{started, unsolved_at, refined_by, bounded, closed as whole_proof}
use Rattle.vernac_exec.specs.declared.deed.Deed.{Deed}
use Rattle.vernac_exec.specs.declared.deed.Deed.TheVariants.{Declares, Answers, Begins as Starts, GoesOn, Passes, Drops}
use Rattle.vernac_exec.specs.declared.reading.Reading.{Reading}
use Rattle.vernac_exec.specs.declared.reading.Reading.TheVariants as read
use Rattle.vernac_exec.specs.declared.state.OpenProof.{OpenProof}
use Rattle.vernac_exec.specs.declared.state.Row.{Row}
use Rattle.vernac_exec.specs.declared.state.State.{State}
use Rattle.vernac_exec.specs.Families.{family, written_names, elab_constructors}
use Rattle.vernac_exec.specs.Commands.{judgement_text, theorem, named_hyps, declare_as, assume, elab_over, elab_annotation, define, elab_family, induct, check, begin_proof, obey}
use Rattle.vernac_exec.specs.Proofs.{first_number, context_in_focus, refocused, told_of_filling, has_unsolved, run_move, prove_at, prove, end_proof, obey_inside}
use Rattle.vernac_exec.specs.Readings.{is_end_of, reading}
use Rattle.vernac_exec.specs.Sentences.{run_outside, run_inside, run_reading, sentence_run}
use Rattle.vernac_exec.specs.States.{next_row, passed, declared, done, entered_as_admitted, with_progress, behind}
use Rattle.vernac_exec.specs.Exec.{whole_run}
use Rattle.vernac_exec.specs.Soundness.{is_taken_for_granted, IsRowIn, WaitsIn, IsPutBy, IsSound, StatesAreSound}

any : {A : Type 0} (f : Run A) → Tells f (λ _. Unit {0})
any f = record { tells = λ left x e. tt }

-- an environment with globals behind it: the first is an assumption or not, and the whole stays well formed
record Grows (env : List Slot) (granted : Bool) (made : List Slot) : Type 0 where
  first : Slot
  more : List Slot
  parts : made ≡ env ++ first ∷ more
  kind : is_assumption (first ∷ more) 0 ≡ granted
  formed : WfEnv env → WfEnv made

-- the same without what is well formed
record Adds (env : List Slot) (granted : Bool) (made : List Slot) : Type 0 where
  first : Slot
  more : List Slot
  parts : made ≡ env ++ first ∷ more
  kind : is_assumption (first ∷ more) 0 ≡ granted

room_by : (b : Bool) (x made : List Slot) → (if b then Ok x else Err (Out SizeLimit)) ≡ Ok made → made ≡ x
room_by true x made e = cc
room_by false x made e = cc

all_add : (env : List Slot) (granted : Bool) (first : Slot) (more made : List Slot) → is_assumption (first ∷ more) 0 ≡ granted →
    all_entered env (first ∷ more) ≡ Ok made → Adds env granted made
all_add env granted first more made kind e =
    record { first = first; more = more; parts = room_by (nat_le (length env + length (first ∷ more)) (2 ^ 31)) (env ++ first ∷ more) made e; kind = kind }

-- entries of which the first is no assumption
record Begins (xs : List Entry) : Type 0 where
  first : Entry
  more : List Entry
  parts : xs ≡ first ∷ more
  kind : is_assumption (record { entry = first; decl = None } ∷ []) 0 ≡ false

begins_by : (b : Bool) (first : Entry) (more entries : List Entry) → is_assumption (record { entry = first; decl = None } ∷ []) 0 ≡ false →
    (if b then Ok (first ∷ more) else Err (Out SizeLimit)) ≡ Ok entries → Begins entries
begins_by true first more entries kind e = record { first = first; more = more; parts = cc; kind = kind }
begins_by false first more entries kind e = let none : ⊥ = cc in absurd none

slotted_add : (env : List Slot) (d : InductiveDecl) (entries : List Entry) → Begins entries → (made : List Slot) →
    all_entered env (slotted (Some d) entries) ≡ Ok made → Adds env false made
slotted_add env d entries begins made e =
    all_add env false (record { entry = begins.first; decl = Some d }) (slotted None begins.more) made begins.kind
    (subst (λ es. all_entered env (slotted (Some d) es) ≡ Ok made) begins.parts e)

-- what a declaration enters first is an assumption
abbrev grants : Decl → Bool
grants (Assume name ty) = true
grants (Admit name ty) = true
grants (Define name ty body opaque) = false
grants (Induct d) = false

module _ (env : List Slot) (calls : ℕ) where
  enter_adds : (granted : Bool) (name : List ℕ) (ty : Tree) (kind : EntryKind) (used : List ℕ) →
      is_assumption (own_slot (record { name = name; ty = ty; kind = kind; used = used }) ∷ []) 0 ≡ granted → Tells (enter env name ty kind used) (Adds env granted)
  enter_adds granted name ty kind used is =
      tells_give (entered env (record { name = name; ty = ty; kind = kind; used = used }))
      (λ made e. all_add env granted (own_slot (record { name = name; ty = ty; kind = kind; used = used })) [] made is e)

  assumed_adds : (name : List ℕ) (ty : Tree) → Tells (assume_at env calls name ty Assumed) (Adds env true)
  assumed_adds name ty = tells_bind (any (sort_of_at env calls [] ty)) (λ s _. enter_adds true name ty Assumed s.used refl)

  admitted_adds : (name : List ℕ) (ty : Tree) → Tells (assume_at env calls name ty Admitted) (Adds env true)
  admitted_adds name ty = tells_bind (any (sort_of_at env calls [] ty)) (λ s _. enter_adds true name ty Admitted s.used refl)

  define_adds : (name : List ℕ) (ty : Option Tree) (body : Tree) (opaque : Bool) →
      Tells (define_at env calls name ty body (Defined body opaque)) (Adds env false)
  define_adds name (Some ty) body opaque =
      tells_bind (any (sort_of_at env calls [] ty)) (λ s _. tells_bind (any (check_at env calls [] body ty))
      (λ used _. enter_adds false name ty (Defined body opaque) _ refl))
  define_adds name None body opaque =
      tells_bind (any (infer_at env calls [] body)) (λ i _. tells_bind (any (sort_of_at env calls [] i.ty))
      (λ s _. enter_adds false name i.ty (Defined body opaque) _ refl))

  declare_adds : (d : Decl) → Tells (declare_at env calls d) (Adds env (grants d))
  unfolding declare_at
  declare_adds (Assume name ty) = tells_step (forbid (is_taken env name) 25) (assumed_adds name ty)
  declare_adds (Admit name ty) = tells_step (forbid (is_taken env name) 25) (admitted_adds name ty)
  declare_adds (Define name ty body opaque) = tells_step (forbid (is_taken env name) 25) (define_adds name ty body opaque)
  declare_adds (Induct d) =
      tells_bind (any (check_inductive_at env calls d)) (λ c _. tells_bind (tells_give (eliminators env c) (λ entries e. begins_by _ _ _ entries refl e))
      (λ entries begins. tells_give (all_entered env (slotted (Some d) entries)) (λ made e. slotted_add env d entries begins made e)))

  declare_grows : (d : Decl) → Tells (declare_at env calls d) (Grows env (grants d))
  declare_grows d =
      record {
        tells = λ left made e. let a = (declare_adds d).tells left made e in
            record { first = a.first; more = a.more; parts = a.parts; kind = a.kind; formed = λ is. (declare_keeps_form env is calls d).tells left made e };
      }

-- globals behind others change none of them
behind_is : (env more : List Slot) → is_assumption (env ++ more) (length env) ≡ is_assumption more 0
behind_is [] more = refl
behind_is (x ∷ env) more = behind_is env more

before_is : (env more : List Slot) (place : ℕ) → place < length env → is_assumption (env ++ more) place ≡ is_assumption env place
before_is [] more place within = absurd (omega arith)
before_is (x ∷ env) more zero within = refl
before_is (x ∷ env) more (suc place) within = before_is env more place (omega arith)

-- what a deed leaves of an environment
abbrev IsDeedIn : List Slot → Deed → Type 0
IsDeedIn env (Declares kind made) = Grows env (is_taken_for_granted kind) made
IsDeedIn env (Starts theorem proof) = Grows env true theorem.admitted
IsDeedIn env _ = Unit {0}

-- a theorem that waits is entered as it was put by
waiting_grows : (env admitted : List Slot) → WaitsIn env admitted → Grows env true admitted
waiting_grows env admitted w = record {
  first = w.next.first;
  more = w.next.more;
  parts = w.next.parts;
  kind = sym (behind_is env (w.next.first ∷ w.next.more)) ∙ subst (λ slots. is_assumption slots (length env) ≡ true) w.next.parts w.assumed;
  formed = λ _. w.environment;
}

grown_waits : (env admitted : List Slot) → Grows env true admitted → WfEnv env → WaitsIn env admitted
grown_waits env admitted g is = record {
  environment = g.formed is;
  next = record { first = g.first; more = g.more; parts = g.parts };
  assumed = subst (λ slots. is_assumption slots (length env) ≡ true) (sym g.parts) (behind_is env (g.first ∷ g.more) ∙ g.kind);
}

module _ (env : List Slot) (calls : ℕ) where
  declare_does : (kind : ItemKind) (d : Decl) → grants d ≡ is_taken_for_granted kind → Tells (declare_as env calls kind d) (IsDeedIn env)
  declare_does kind d same =
      tells_bind (declare_grows env calls d) (λ made h. tells_pure (Declares kind made) (subst (λ b. Grows env b made) same h))

  assume_does : (name : List ℕ) (s : Term) → Tells (assume env calls name s) (IsDeedIn env)
  assume_does name s =
      tells_step (forbid (is_taken env name) code.NAME_TAKEN)
      (tells_bind (any (elab env calls [] s)) (λ ty _. declare_does item.Axiom (Assume name ty) refl))

  define_does : (name : List ℕ) (groups : GroupList) (a : Annotation) (s : Term) → Tells (define env calls name groups a s) (IsDeedIn env)
  define_does name groups a s =
      tells_step (forbid (is_taken env name) code.NAME_TAKEN)
      (tells_bind (any (open_groups env calls [] groups)) (λ inner _. tells_bind (any (elab_annotation env calls inner a)) (λ ty _.
      tells_bind (any (elab_over env calls Function inner s)) (λ value _. declare_does item.Definition (Define name ty value false) refl))))

  family_does : (name : List ℕ) (params : List Hyp) (arity : Tree) (cs : List Constructor) →
      Tells (elab_family env calls name params arity cs) (IsDeedIn env)
  family_does name params arity cs =
      tells_step (check_size (type_of_decl (family name params arity [])))
      (tells_bind (any (give (entered env (assumed_type (family name params arity []))))) (λ inner _.
      tells_bind (any (elab_constructors inner calls params (length env) [] cs)) (λ ctors _.
      declare_does item.Inductive (Induct (family name params arity ctors)) refl)))

  induct_does : (name : List ℕ) (groups : GroupList) (s : Term) (cs : List Constructor) → Tells (induct env calls name groups s cs) (IsDeedIn env)
  induct_does name groups s cs =
      tells_step (forbid (has_twice (written_names name cs)) code.DUPLICATE_NAME)
      (tells_step (forbid (any_taken env (written_names name cs)) code.NAME_TAKEN)
      (tells_bind (any (open_groups env calls [] groups)) (λ params _.
      tells_bind (any (elab env calls params s)) (λ arity _. family_does name params arity cs))))

  check_does : (ctx : List Hyp) (s : Term) → Tells (check env calls ctx s) (IsDeedIn env)
  check_does ctx s =
      tells_bind (any (elab env calls ctx s)) (λ t _.
      tells_bind (any (infer_at env calls ctx t)) (λ i _. tells_pure (Answers (judgement_text env ctx t i.ty)) tt))

  begin_does : (name : List ℕ) (groups : GroupList) (s : Term) → Tells (begin_proof env calls name groups s) (IsDeedIn env)
  begin_does name groups s =
      tells_step (forbid (is_taken env name) code.NAME_TAKEN)
      (tells_bind (any (open_groups env calls [] groups)) (λ inner _. tells_bind (any (elab env calls inner s)) (λ statement _.
      tells_bind (any (take_step (closed Product inner statement))) (λ ty _. tells_bind (declare_grows env calls (Admit name ty)) (λ admitted h.
      tells_pure (Starts (theorem name ty admitted) (started (named_hyps env inner) statement)) h)))))

  obey_does : (c : Command) → Tells (obey env calls c) (IsDeedIn env)
  unfolding obey
  obey_does (command.Assume word keyword name colon ty) = assume_does name.text ty
  obey_does (command.Define keyword name groups annotation assign value) = define_does name.text groups annotation value
  obey_does (command.State word keyword name groups colon ty) = begin_does name.text groups ty
  obey_does (command.Inductive keyword name groups colon arity assign constructors) = induct_does name.text groups arity constructors
  obey_does (command.Check keyword term) = check_does [] term
  obey_does (command.Proof place) = tells_stop _
  obey_does (command.Qed place) = tells_stop _
  obey_does (command.Defined place) = tells_stop _
  obey_does (command.Admitted place) = tells_stop _
  obey_does (command.Aborted place) = tells_stop _

  outside_does : (r : Reading) → Tells (run_outside env calls r) (IsDeedIn env)
  outside_does (read.Command c) = obey_does c
  outside_does (read.Move m) = tells_stop _
  outside_does (read.Bullet mark count) = tells_stop _
  outside_does read.OpenBrace = tells_stop _
  outside_does read.CloseBrace = tells_stop _

  module _ (o : OpenProof) (put : WaitsIn env o.theorem.admitted) where
    prove_at_does : (n : ℕ) (g : Goal) (m : Move) → Tells (prove_at env calls o n g m) (IsDeedIn env)
    prove_at_does n g m =
        tells_bind (any (run_move env calls g m)) (λ by _. tells_bind (any (give (refined_by o.proof n by))) (λ r _.
        tells_pure (GoesOn r.proof (replaced r.goals o.focus) (told_of_filling by)) tt))

    prove_does : (m : Move) → Tells (prove env calls o m) (IsDeedIn env)
    prove_does m =
        tells_bind (any (some_or code.NO_GOAL (first_number o))) (λ n _.
        tells_bind (any (some_or code.NO_GOAL (unsolved_at o.proof.goals n))) (λ g _. prove_at_does n g m))

    end_does : (opaque : Bool) → Tells (end_proof env calls opaque o) (IsDeedIn env)
    end_does opaque =
        tells_step (forbid (has_unsolved o.proof.goals) code.GOALS_REMAIN)
        (tells_step (forbid (nat_lt 0 (length o.proof.given_up)) code.ADMITTED_GOALS)
        (tells_bind (any (give (bounded (whole_proof o.proof)))) (λ t _.
        declare_does item.Theorem (Define o.theorem.name (Some o.theorem.ty) t opaque) refl)))

    inside_does : (c : Command) → Tells (obey_inside env calls o c) (IsDeedIn env)
    unfolding obey_inside
    inside_does (command.Assume word keyword name colon ty) = tells_stop _
    inside_does (command.Define keyword name groups annotation assign value) = tells_stop _
    inside_does (command.State word keyword name groups colon ty) = tells_stop _
    inside_does (command.Inductive keyword name groups colon arity assign constructors) = tells_stop _
    inside_does (command.Check keyword term) = check_does (context_in_focus o) term
    inside_does (command.Proof place) = tells_pure Passes tt
    inside_does (command.Qed place) = end_does true
    inside_does (command.Defined place) = end_does false
    inside_does (command.Admitted place) = tells_pure (Declares item.Admitted o.theorem.admitted) (waiting_grows env o.theorem.admitted put)
    inside_does (command.Aborted place) = tells_pure Drops tt

    run_inside_does : (r : Reading) → Tells (run_inside env calls o r) (IsDeedIn env)
    run_inside_does (read.Command c) = inside_does c
    run_inside_does (read.Move m) = prove_does m
    run_inside_does (read.Bullet mark count) = tells_pure (refocused o (after_bullet mark count o.focus)) tt
    run_inside_does read.OpenBrace = tells_pure (refocused o (after_brace_open o.focus)) tt
    run_inside_does read.CloseBrace = tells_pure (refocused o (after_brace_close o.focus)) tt

  reading_does : (opened : Option OpenProof) → IsPutBy env opened → (r : Reading) → Tells (run_reading env calls opened r) (IsDeedIn env)
  reading_does None put r = outside_does r
  reading_does (Some o) put r = run_inside_does o put r

  sentence_does : (opened : Option OpenProof) → IsPutBy env opened → (kind : Kind) (text : List ℕ) →
      Tells (sentence_run env calls opened kind text) (IsDeedIn env)
  unfolding sentence_run
  sentence_does opened put kind text = tells_bind (any (give (reading kind text))) (λ r _. reading_does opened put r)

longer : (env : List Slot) (first : Slot) (more : List Slot) → length env < length (env ++ first ∷ more)
longer [] first more = omega arith
longer (x ∷ env) first more = let rest = longer env first more in omega (arith, rest)

more_room : (env more : List Slot) (place : ℕ) → place < length env → place < length (env ++ more)
more_room [] more place within = absurd (omega arith)
more_room (x ∷ env) more zero within = omega arith
more_room (x ∷ env) more (suc place) within = let rest = more_room env more place (omega arith) in omega (arith, rest)

row_stays : (env more : List Slot) (row : Row) → IsRowIn env row → IsRowIn (env ++ more) row
row_stays env more row is = record { there = more_room env more row.place is.there; kind = before_is env more row.place is.there ∙ is.kind }

new_row : (m : State) (kind : ItemKind) (first : Slot) (more : List Slot) → is_assumption (first ∷ more) 0 ≡ is_taken_for_granted kind →
    IsRowIn (m.env ++ first ∷ more) (next_row m kind)
new_row m kind first more is = record { there = longer m.env first more; kind = behind_is m.env (first ∷ more) ∙ is }

all_rows : (m : State) (kind : ItemKind) (first : Slot) (more : List Slot) → is_assumption (first ∷ more) 0 ≡ is_taken_for_granted kind →
    All (IsRowIn m.env) m.outline → All (IsRowIn (m.env ++ first ∷ more)) (m.outline ++ next_row m kind ∷ [])
all_rows m kind first more is rows =
    All-push (IsRowIn (m.env ++ first ∷ more)) m.outline (next_row m kind) (λ k d lt. row_stays m.env (first ∷ more) _ (rows k d lt)) (new_row m kind first more is)

-- what is known of a sentence's deed
abbrev Told : State → Result Deed Stop → Type 0
Told m answer = (deed : Deed) → answer ≡ Ok deed → IsDeedIn m.env deed

done_formed : (m : State) (deed : Deed) → IsDeedIn m.env deed → WfEnv m.env → WfEnv (done m deed).env
done_formed m (Declares kind made) h is = h.formed is
done_formed m (Answers text) h is = is
done_formed m (Starts theorem proof) h is = is
done_formed m (GoesOn proof focus told) h is = is
done_formed m Passes h is = is
done_formed m Drops h is = is

admitted_formed : (m : State) (opened : Option OpenProof) → IsPutBy m.env opened → WfEnv m.env → WfEnv (entered_as_admitted m opened).env
admitted_formed m None put is = is
admitted_formed m (Some o) put is = put.environment

refused_formed : (m : State) (b : Bool) → IsPutBy m.env m.opened → WfEnv m.env → WfEnv (if b then entered_as_admitted m m.opened else passed m).env
refused_formed m true put is = admitted_formed m m.opened put is
refused_formed m false put is = is

formed_by : (m : State) (r : Result Reading Stop) (answer : Result Deed Stop) → IsPutBy m.env m.opened → Told m answer → WfEnv m.env →
    WfEnv (behind m r answer).env
formed_by m r (Ok deed) put h is = done_formed m deed (h deed refl) is
formed_by m r (Err stop) put h is = refused_formed m (is_end_of r) put is

with_put : (env : List Slot) (opened : Option OpenProof) (proof : Proof) (focus : FocusState) → IsPutBy env opened →
    IsPutBy env (with_progress opened proof focus)
with_put env None proof focus put = tt
with_put env (Some o) proof focus put = put

declared_sound : (m : State) (kind : ItemKind) (made : List Slot) → Grows m.env (is_taken_for_granted kind) made → IsSound m →
    IsSound (declared m kind made)
declared_sound m kind made g is = record {
  environment = g.formed is.environment;
  rows = subst (λ env. All (IsRowIn env) (m.outline ++ next_row m kind ∷ [])) (sym g.parts) (all_rows m kind g.first g.more g.kind is.rows);
  put_by = tt;
}

done_sound : (m : State) (deed : Deed) → IsDeedIn m.env deed → IsSound m → IsSound (done m deed)
done_sound m (Declares kind made) h is = declared_sound m kind made h is
done_sound m (Answers text) h is = record { environment = is.environment; rows = is.rows; put_by = is.put_by }
done_sound m (Starts theorem proof) h is =
    record { environment = is.environment; rows = is.rows; put_by = grown_waits m.env theorem.admitted h is.environment }
done_sound m (GoesOn proof focus told) h is =
    record { environment = is.environment; rows = is.rows; put_by = with_put m.env m.opened proof focus is.put_by }
done_sound m Passes h is = record { environment = is.environment; rows = is.rows; put_by = is.put_by }
done_sound m Drops h is = record { environment = is.environment; rows = is.rows; put_by = tt }

passed_sound : (m : State) → IsSound m → IsSound (passed m)
passed_sound m is = record { environment = is.environment; rows = is.rows; put_by = is.put_by }

admitted_sound : (m : State) (opened : Option OpenProof) → IsPutBy m.env opened → IsSound m → IsSound (entered_as_admitted m opened)
admitted_sound m None put is = passed_sound m is
admitted_sound m (Some o) put is = declared_sound m item.Admitted o.theorem.admitted (waiting_grows m.env o.theorem.admitted put) is

refused_sound : (m : State) (b : Bool) → IsSound m → IsSound (if b then entered_as_admitted m m.opened else passed m)
refused_sound m true is = admitted_sound m m.opened is.put_by is
refused_sound m false is = passed_sound m is

after_by : (m : State) (r : Result Reading Stop) (answer : Result Deed Stop) → Told m answer → IsSound m → IsSound (behind m r answer)
after_by m r (Ok deed) h is = done_sound m deed (h deed refl) is
after_by m r (Err stop) h is = refused_sound m (is_end_of r) is

-- a row of a well formed environment is grounded
grounded_by : (env : List Slot) → WfEnv env → (place : ℕ) (granted : Bool) → place < length env → is_assumption env place ≡ granted →
    IsGrounded env (if granted then place ∷ axioms env place else axioms env place) place
grounded_by env wf place true there kind = entries_are_grounded.assumptions env wf place (grind (arith, kind))
grounded_by env wf place false there kind = entries_are_grounded.others env wf place there kind

pub states_are_sound : StatesAreSound
states_are_sound =
    record {
      first = λ env wf. record { environment = wf; rows = λ k d h. absurd (omega arith); put_by = tt };
      formed = λ m s is put. formed_by m (reading s.kind s.text) (whole_run m s).answer put
          (λ deed e. (sentence_does m.env NESTING_LIMIT m.opened put s.kind s.text).tells _ deed e) is;
      after = λ m s is. after_by m (reading s.kind s.text) (whole_run m s).answer
          (λ deed e. (sentence_does m.env NESTING_LIMIT m.opened is.put_by s.kind s.text).tells _ deed e) is;
      grounded = λ m is k d lt. let row = is.rows k d lt in grounded_by m.env is.environment _ _ row.there row.kind;
    }

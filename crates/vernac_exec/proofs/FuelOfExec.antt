-- The law of fuel of a sentence, command by command.
use Rattle.std.proofs.Common.{◌≡◌, ℕ, ◌+◌, nat_le, nat_lt, List, [], ◌∷◌, ◌++◌, length, Bool, true, false, Option, Some, None, Result, Ok, Err, ap}
use Rattle.std.specs.Prelude.{if◌then◌else◌}
use Rattle.base_core.specs.declared.kind.Kind.{Kind}
use Rattle.base_core.specs.declared.kind.Kind.TheVariants.{Plain, Bullet, BraceOpen, BraceClose, Unfinished}
use Rattle.base_core.specs.declared.refusal_codes.TheConstants as code
use Rattle.base_core.specs.declared.refusals.Stop.{Stop}
use Rattle.base_core.specs.declared.refusals.Stop.TheVariants.{Out}
use Rattle.base_core.specs.declared.refusals.Limit.TheVariants.{StepLimit, SizeLimit}
use Rattle.prover_iface.specs.declared.outline.ItemKind.{ItemKind}
use Rattle.prover_iface.specs.declared.outline.ItemKind.TheVariants as item
use Rattle.coq_syntax.specs.Trees.{Term, GroupList, Annotation, Untyped, Typed}
use Rattle.coq_syntax.specs.CommandTrees.{Constructor, Command}
use Rattle.coq_syntax.specs.CommandTrees as command
use Rattle.coq_syntax.specs.MoveTrees.{Move}
use Rattle.coq_syntax.specs.CommandWords.{is_command}
use Rattle.coq_syntax.specs.Answers.{told}
use Rattle.coq_syntax.specs.Refusals.{Outcome}
use Rattle.coq_syntax.specs.SentenceTokens.{sentence_tokens}
use Rattle.coq_syntax.specs.Tokens.{Tokens}
use Rattle.vernac_parser.specs.ParseCommand.{read_command, whole_command}
use Rattle.move_parser.specs.WholeMove.{whole_move}
use Rattle.move_parser.specs.Sentences.{Sentence, CommandSentence, MoveSentence, read_move, read_as, read_sentence}
use Rattle.core_term.specs.Tree.{Tree, is_small}
use Rattle.cic_rules.specs.declared.context.Hyp.{Hyp}
use Rattle.cic_rules.specs.declared.decls.Ctor.{Ctor}
use Rattle.cic_rules.specs.declared.decls.Decl.{Decl}
use Rattle.cic_rules.specs.declared.decls.Decl.TheVariants.{Assume, Define, Admit, Induct}
use Rattle.cic_rules.specs.declared.env.Slot.{Slot}
use Rattle.cic_rules.specs.Environments.{is_taken}
use Rattle.cic_rules.specs.Eliminators.{type_of_decl}
use Rattle.cic_rules.specs.Inductive.{has_twice, any_taken, assumed_type}
use Rattle.cic_rules.specs.Laws.{KeepsLawOfFuel}
use Rattle.cic_rules.proofs.FuelLaws.{law_give, law_pure, law_refuse, law_bind, law_step, law_take_step, law_forbid, law_size, law_some, law_entry}
use Rattle.cic_rules.proofs.InferFuelLaws.{fuel_of_inference, fuel_of_declarations}
use Rattle.elaborator.specs.declared.binders.Binding.{Binding}
use Rattle.elaborator.specs.declared.binders.Binding.TheVariants.{Product, Function}
use Rattle.elaborator.specs.Parts.{closed}
use Rattle.elaborator.specs.Constructors.{applied_to_oldest, result_type, constructor_type}
use Rattle.elaborator.proofs.FuelOfElab.{fuel_of_elaboration, fuel_of_groups}
use Rattle.bullet_focus.specs.Steps.{replaced, after_bullet, after_brace_open, after_brace_close}
use Rattle.proof_state.specs.declared.goals.Goal.{Goal}
use Rattle.proof_state.specs.declared.goals.TheConstants.{GOAL_LIMIT}
use Rattle.proof_state.specs.declared.state.Filling.{Filling}
use Rattle.proof_state.specs.declared.state.Filling.TheVariants as fill
use Rattle.proof_state.specs.Partial.{holes}
use Rattle.proof_state.specs.Proof.{Proof}
use Rattle.proof_state.specs.Steps.{started, unsolved_at, refined, refined_by, bounded, closed as whole_proof}
use Rattle.vernac_exec.specs.declared.deed.Deed.TheVariants.{Declares, Answers, Begins, GoesOn, Passes, Drops}
use Rattle.vernac_exec.specs.declared.reading.Reading.{Reading}
use Rattle.vernac_exec.specs.declared.reading.Reading.TheVariants as read
use Rattle.vernac_exec.specs.declared.state.OpenProof.{OpenProof}
use Rattle.vernac_exec.specs.Families.{ctor, family, written_names, elab_constructors}
use Rattle.vernac_exec.specs.Commands.{judgement_text, theorem, named_hyps, declare_as, assume, elab_over, elab_annotation, define, elab_family, induct, check, begin_proof, obey}
use Rattle.vernac_exec.specs.Proofs.{first_number, context_in_focus, refocused, told_of_filling, has_unsolved, prove_at, prove, end_proof, obey_inside}
use Rattle.vernac_exec.specs.Readings.{read_plain, reading}
use Rattle.vernac_exec.specs.Sentences.{run_outside, run_inside, run_reading, sentence_run}
use Rattle.vernac_exec.specs.Laws.{FuelOfSentences}
use Rattle.vernac_exec.proofs.AllMoves.{fuel_of_move}

-- constructors, where the type is there
module _ (env : List Slot) (calls : ℕ) where
  law_result : (params : List Hyp) (place : ℕ) (a : Annotation) (inner : List Hyp) → KeepsLawOfFuel (result_type env calls params place a inner)
  law_result params place Untyped inner = law_take_step (applied_to_oldest place (length params) (length inner))
  law_result params place (Typed p s) inner = fuel_of_elaboration env calls inner s

  law_constructor : (params : List Hyp) (place : ℕ) (gs : GroupList) (a : Annotation) → KeepsLawOfFuel (constructor_type env calls params place gs a)
  law_constructor params place gs a =
      law_bind (fuel_of_groups env calls params gs) (λ inner. law_bind (law_result params place a inner) (λ ty. law_take_step _))

  law_constructors : (params : List Hyp) (place : ℕ) (done : List Ctor) (cs : List Constructor) →
      KeepsLawOfFuel (elab_constructors env calls params place done cs)
  law_constructors params place done [] = law_pure done
  law_constructors params place done (c ∷ cs) =
      law_bind (law_constructor params place c.groups c.annotation) (λ ty. law_constructors params place (done ++ ctor c.name.text ty ∷ []) cs)

module _ (env : List Slot) (calls : ℕ) where
  law_declare : (kind : ItemKind) (d : Decl) → KeepsLawOfFuel (declare_as env calls kind d)
  law_declare kind d = law_bind (fuel_of_declarations env calls d) (λ made. law_pure (Declares kind made))

  law_assume : (name : List ℕ) (s : Term) → KeepsLawOfFuel (assume env calls name s)
  law_assume name s =
      law_step (law_forbid (is_taken env name) code.NAME_TAKEN)
      (law_bind (fuel_of_elaboration env calls [] s) (λ ty. law_declare item.Axiom (Assume name ty)))

  law_over : (kind : Binding) (inner : List Hyp) (s : Term) → KeepsLawOfFuel (elab_over env calls kind inner s)
  law_over kind inner s = law_bind (fuel_of_elaboration env calls inner s) (λ t. law_take_step (closed kind inner t))

  law_annotation : (inner : List Hyp) (a : Annotation) → KeepsLawOfFuel (elab_annotation env calls inner a)
  law_annotation inner Untyped = law_pure None
  law_annotation inner (Typed colon s) = law_bind (law_over Product inner s) (λ ty. law_pure (Some ty))

  law_define : (name : List ℕ) (groups : GroupList) (a : Annotation) (s : Term) → KeepsLawOfFuel (define env calls name groups a s)
  law_define name groups a s =
      law_step (law_forbid (is_taken env name) code.NAME_TAKEN)
      (law_bind (fuel_of_groups env calls [] groups) (λ inner. law_bind (law_annotation inner a) (λ ty.
      law_bind (law_over Function inner s) (λ value. law_declare item.Definition (Define name ty value false)))))

  law_family : (name : List ℕ) (params : List Hyp) (arity : Tree) (cs : List Constructor) →
      KeepsLawOfFuel (elab_family env calls name params arity cs)
  law_family name params arity cs =
      law_step (law_size (type_of_decl (family name params arity [])))
      (law_bind (law_entry env (assumed_type (family name params arity []))) (λ inner.
      law_bind (law_constructors inner calls params (length env) [] cs) (λ ctors. law_declare item.Inductive (Induct (family name params arity ctors)))))

  law_induct : (name : List ℕ) (groups : GroupList) (s : Term) (cs : List Constructor) → KeepsLawOfFuel (induct env calls name groups s cs)
  law_induct name groups s cs =
      law_step (law_forbid (has_twice (written_names name cs)) code.DUPLICATE_NAME)
      (law_step (law_forbid (any_taken env (written_names name cs)) code.NAME_TAKEN)
      (law_bind (fuel_of_groups env calls [] groups) (λ params.
      law_bind (fuel_of_elaboration env calls params s) (λ arity. law_family name params arity cs))))

  law_check : (ctx : List Hyp) (s : Term) → KeepsLawOfFuel (check env calls ctx s)
  law_check ctx s =
      law_bind (fuel_of_elaboration env calls ctx s) (λ t.
      law_bind (fuel_of_inference env calls ctx t) (λ i. law_pure (Answers (judgement_text env ctx t i.ty))))

  law_begin : (name : List ℕ) (groups : GroupList) (s : Term) → KeepsLawOfFuel (begin_proof env calls name groups s)
  law_begin name groups s =
      law_step (law_forbid (is_taken env name) code.NAME_TAKEN)
      (law_bind (fuel_of_groups env calls [] groups) (λ inner. law_bind (fuel_of_elaboration env calls inner s) (λ statement.
      law_bind (law_take_step (closed Product inner statement)) (λ ty. law_bind (fuel_of_declarations env calls (Admit name ty)) (λ admitted.
      law_pure (Begins (theorem name ty admitted) (started (named_hyps env inner) statement)))))))

  law_obey : (c : Command) → KeepsLawOfFuel (obey env calls c)
  unfolding obey
  law_obey (command.Assume word keyword name colon ty) = law_assume name.text ty
  law_obey (command.Define keyword name groups annotation assign value) = law_define name.text groups annotation value
  law_obey (command.State word keyword name groups colon ty) = law_begin name.text groups ty
  law_obey (command.Inductive keyword name groups colon arity assign constructors) = law_induct name.text groups arity constructors
  law_obey (command.Check keyword term) = law_check [] term
  law_obey (command.Proof place) = law_refuse code.NO_PROOF
  law_obey (command.Qed place) = law_refuse code.NO_PROOF
  law_obey (command.Defined place) = law_refuse code.NO_PROOF
  law_obey (command.Admitted place) = law_refuse code.NO_PROOF
  law_obey (command.Aborted place) = law_refuse code.NO_PROOF

-- reading never ends for want of units
told_is : {A : Type 0} (tokens : Tokens) (r : Outcome A) → told tokens r ≡ Err (Out StepLimit) → ⊥
told_is tokens (Ok p) e = cc
told_is tokens (Err f) e = cc

read_as_is : {A : Type 0} (make : A → Sentence) (r : Result A Stop) → (r ≡ Err (Out StepLimit) → ⊥) → read_as make r ≡ Err (Out StepLimit) → ⊥
read_as_is make (Ok x) other e = cc
read_as_is make (Err stop) other e = let same : stop ≡ Out StepLimit = cc in other (ap Err same)

either_is : {A : Type 0} (b : Bool) (x y : Result A Stop) → (x ≡ Err (Out StepLimit) → ⊥) → (y ≡ Err (Out StepLimit) → ⊥) →
    (if b then x else y) ≡ Err (Out StepLimit) → ⊥
either_is true x y first second e = first e
either_is false x y first second e = second e

read_is : (tokens : Tokens) → read_sentence tokens ≡ Err (Out StepLimit) → ⊥
read_is tokens e =
    either_is (is_command tokens.items) (read_as CommandSentence (read_command tokens)) (read_as MoveSentence (read_move tokens))
    (read_as_is CommandSentence (read_command tokens) (told_is tokens (whole_command tokens.items)))
    (read_as_is MoveSentence (read_move tokens) (told_is tokens (whole_move tokens.items))) e

-- nor does what is read of a sentence
plain_is : (r : Result Sentence Stop) → (r ≡ Err (Out StepLimit) → ⊥) → read_plain r ≡ Err (Out StepLimit) → ⊥
plain_is (Ok (CommandSentence c)) other e = cc
plain_is (Ok (MoveSentence m)) other e = cc
plain_is (Err stop) other e = let same : stop ≡ Out StepLimit = cc in other (ap Err same)

reading_is : (kind : Kind) (text : List ℕ) → reading kind text ≡ Err (Out StepLimit) → ⊥
unfolding reading
reading_is Unfinished text e = cc
reading_is Bullet text e = cc
reading_is BraceOpen text e = cc
reading_is BraceClose text e = cc
reading_is Plain text e = plain_is (read_sentence (sentence_tokens text)) (read_is (sentence_tokens text)) e

-- a step of the proof, and its whole term
refined_is : (p : Proof) (n : ℕ) (by : Filling) → refined_by p n by ≡ Err (Out StepLimit) → ⊥
refined_is p n (fill.Give s) e =
    either_is (nat_le (length p.goals + length (holes s)) GOAL_LIMIT) (Ok (refined n s p)) (Err (Out SizeLimit)) (λ h. cc) (λ h. cc) e
refined_is p n fill.Admit e = cc

bounded_is : (t : Tree) → bounded t ≡ Err (Out StepLimit) → ⊥
bounded_is t e = either_is (is_small t) (Ok t) (Err (Out SizeLimit)) (λ h. cc) (λ h. cc) e

module _ (env : List Slot) (calls : ℕ) where
  law_prove_at : (o : OpenProof) (n : ℕ) (g : Goal) (m : Move) → KeepsLawOfFuel (prove_at env calls o n g m)
  law_prove_at o n g m =
      law_bind (fuel_of_move env calls g m) (λ by. law_bind (law_give (refined_by o.proof n by) (refined_is o.proof n by)) (λ r.
      law_pure (GoesOn r.proof (replaced r.goals o.focus) (told_of_filling by))))

  law_prove : (o : OpenProof) (m : Move) → KeepsLawOfFuel (prove env calls o m)
  law_prove o m =
      law_bind (law_some code.NO_GOAL (first_number o)) (λ n.
      law_bind (law_some code.NO_GOAL (unsolved_at o.proof.goals n)) (λ g. law_prove_at o n g m))

  law_end : (opaque : Bool) (o : OpenProof) → KeepsLawOfFuel (end_proof env calls opaque o)
  law_end opaque o =
      law_step (law_forbid (has_unsolved o.proof.goals) code.GOALS_REMAIN)
      (law_step (law_forbid (nat_lt 0 (length o.proof.given_up)) code.ADMITTED_GOALS)
      (law_bind (law_give (bounded (whole_proof o.proof)) (bounded_is (whole_proof o.proof))) (λ t.
      law_declare env calls item.Theorem (Define o.theorem.name (Some o.theorem.ty) t opaque))))

  law_inside : (o : OpenProof) (c : Command) → KeepsLawOfFuel (obey_inside env calls o c)
  unfolding obey_inside
  law_inside o (command.Assume word keyword name colon ty) = law_refuse code.PROOF_OPEN
  law_inside o (command.Define keyword name groups annotation assign value) = law_refuse code.PROOF_OPEN
  law_inside o (command.State word keyword name groups colon ty) = law_refuse code.PROOF_OPEN
  law_inside o (command.Inductive keyword name groups colon arity assign constructors) = law_refuse code.PROOF_OPEN
  law_inside o (command.Check keyword term) = law_check env calls (context_in_focus o) term
  law_inside o (command.Proof place) = law_pure Passes
  law_inside o (command.Qed place) = law_end true o
  law_inside o (command.Defined place) = law_end false o
  law_inside o (command.Admitted place) = law_pure (Declares item.Admitted o.theorem.admitted)
  law_inside o (command.Aborted place) = law_pure Drops

  law_run_outside : (r : Reading) → KeepsLawOfFuel (run_outside env calls r)
  law_run_outside (read.Command c) = law_obey env calls c
  law_run_outside (read.Move m) = law_refuse code.NO_PROOF
  law_run_outside (read.Bullet mark count) = law_refuse code.NO_PROOF
  law_run_outside read.OpenBrace = law_refuse code.NO_PROOF
  law_run_outside read.CloseBrace = law_refuse code.NO_PROOF

  law_run_inside : (o : OpenProof) (r : Reading) → KeepsLawOfFuel (run_inside env calls o r)
  law_run_inside o (read.Command c) = law_inside o c
  law_run_inside o (read.Move m) = law_prove o m
  law_run_inside o (read.Bullet mark count) = law_pure (refocused o (after_bullet mark count o.focus))
  law_run_inside o read.OpenBrace = law_pure (refocused o (after_brace_open o.focus))
  law_run_inside o read.CloseBrace = law_pure (refocused o (after_brace_close o.focus))

  law_reading : (opened : Option OpenProof) (r : Reading) → KeepsLawOfFuel (run_reading env calls opened r)
  law_reading None r = law_run_outside r
  law_reading (Some o) r = law_run_inside o r

  law_sentence : (opened : Option OpenProof) (kind : Kind) (text : List ℕ) → KeepsLawOfFuel (sentence_run env calls opened kind text)
  unfolding sentence_run
  law_sentence opened kind text = law_bind (law_give (reading kind text) (reading_is kind text)) (λ r. law_reading opened r)

pub fuel_of_sentences : FuelOfSentences
fuel_of_sentences env calls opened kind text = law_sentence env calls opened kind text

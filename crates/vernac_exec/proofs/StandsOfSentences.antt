-- The refusals of a sentence stand at tokens of it, at its period, or at the whole.
use Rattle.std.proofs.Common.{◌≡◌, ℕ, ◌+◌, ◌-◌, ◌^◌, ◌<◌, ◌≤◌, nat_le, nat_lt, min, List, [], ◌∷◌, ◌++◌, length, get_or, codes, Bool, true, false, Option, Some, None, Result, Ok, Err, refl, sym, ◌∙◌, ap, subst, arith, length-append}
use Rattle.std.specs.Prelude.{if◌then◌else◌}
use Rattle.std.specs.Str.{IsUtf8, IsCharBoundary}
use Rattle.std.proofs.lemmas.Str.{IsCharBoundary-end}
use Rattle.base_core.specs.Fit.{IsFit}
use Rattle.base_core.specs.declared.kind.Kind.{Kind}
use Rattle.base_core.specs.declared.kind.Kind.TheVariants.{Plain, Bullet, BraceOpen, BraceClose, Unfinished}
use Rattle.base_core.specs.declared.refusals.Place.{Place}
use Rattle.base_core.specs.declared.refusals.Stop.{Stop}
use Rattle.base_core.specs.declared.refusals.Place.TheVariants.{Whole}
use Rattle.base_core.specs.declared.refusals.Limit.TheVariants.{SizeLimit}
use Rattle.base_core.specs.declared.refusals.Stop.TheVariants.{Refused, Out}
use Rattle.base_core.specs.declared.refusal_codes.TheConstants as code
use Rattle.prover_iface.specs.declared.outline.ItemKind.{ItemKind}
use Rattle.prover_iface.specs.declared.outline.ItemKind.TheVariants as item
use Rattle.coq_syntax.specs.declared.token.Token.{Token}
use Rattle.coq_syntax.specs.declared.words.TokenPlace.{TokenPlace}
use Rattle.coq_syntax.specs.Trees.{Term, GroupList, Annotation, Untyped, Typed}
use Rattle.coq_syntax.specs.CommandTrees.{Constructor, Command}
use Rattle.coq_syntax.specs.CommandTrees as command
use Rattle.coq_syntax.specs.MoveTrees.{Move}
use Rattle.coq_syntax.specs.Spelled.{symbol, spells, groups, annotation}
use Rattle.coq_syntax.specs.Commands.{bar, constructors, command_tokens, IsCommandOf, command_fault}
use Rattle.coq_syntax.specs.Moves.{move_tokens, IsMoveOf, move_fault}
use Rattle.coq_syntax.specs.Faults.{Fault}
use Rattle.coq_syntax.specs.Refusals.{Outcome}
use Rattle.coq_syntax.specs.MeetsWhole.{IsWholeAnswer}
use Rattle.coq_syntax.specs.CommandWords.{is_command}
use Rattle.coq_syntax.specs.Answers.{next_place, refusal, told, IsPlaceIn}
use Rattle.coq_syntax.specs.Tokens.{Tokens}
use Rattle.coq_syntax.specs.TokenPlaces.{AreTokensBehind}
use Rattle.coq_syntax.specs.SentenceTokens.{sentence_tokens}
use Rattle.coq_syntax.proofs.Told.{refused_place}
use Rattle.coq_syntax.proofs.TokensFrom.{law}
use Rattle.coq_syntax.proofs.TokensPlaced.{list_placed}
use Rattle.vernac_parser.specs.ParseCommand.{whole_command, read_command}
use Rattle.vernac_parser.proofs.CommandAnswering.{answers_meet}
use Rattle.move_parser.specs.WholeMove.{whole_move}
use Rattle.move_parser.specs.Sentences.{Sentence, CommandSentence, MoveSentence, read_as, read_move, read_sentence}
use Rattle.move_parser.proofs.MoveLaw.{moves_meet}
use Rattle.core_term.specs.Tree.{Tree, is_small}
use Rattle.cic_rules.specs.declared.context.Hyp.{Hyp}
use Rattle.cic_rules.specs.declared.decls.Ctor.{Ctor}
use Rattle.cic_rules.specs.declared.decls.Decl.{Decl}
use Rattle.cic_rules.specs.declared.decls.Decl.TheVariants.{Assume, Define, Admit, Induct}
use Rattle.cic_rules.specs.declared.env.Slot.{Slot}
use Rattle.cic_rules.specs.Environments.{is_taken}
use Rattle.cic_rules.specs.Eliminators.{type_of_decl}
use Rattle.cic_rules.specs.Inductive.{has_twice, any_taken, assumed_type}
use Rattle.cic_rules.specs.Runs.{and_then}
use Rattle.elaborator.specs.declared.binders.Binding.{Binding}
use Rattle.elaborator.specs.declared.binders.Binding.TheVariants.{Product, Function}
use Rattle.elaborator.specs.Parts.{closed}
use Rattle.bullet_focus.specs.Steps.{replaced, after_bullet, after_brace_open, after_brace_close}
use Rattle.proof_state.specs.declared.goals.Goal.{Goal}
use Rattle.proof_state.specs.declared.goals.TheConstants.{GOAL_LIMIT}
use Rattle.proof_state.specs.declared.state.Filling.{Filling}
use Rattle.proof_state.specs.declared.state.Filling.TheVariants as fill
use Rattle.proof_state.specs.Partial.{holes}
use Rattle.proof_state.specs.Proof.{Proof}
use Rattle.proof_state.specs.Steps.{started, unsolved_at, refined, refined_by, bounded, closed as whole_proof}
use Rattle.vernac_exec.specs.declared.deed.Deed.TheVariants.{Declares, Answers, Begins, GoesOn, Passes, Drops}
use Rattle.vernac_exec.specs.declared.reading.Reading.{Reading}
use Rattle.vernac_exec.specs.declared.reading.Reading.TheVariants as read
use Rattle.vernac_exec.specs.declared.state.OpenProof.{OpenProof}
use Rattle.vernac_exec.specs.Families.{ctor, family, written_names, elab_constructors}
use Rattle.vernac_exec.specs.Commands.{judgement_text, theorem, named_hyps, declare_as, assume, elab_over, elab_annotation, define, elab_family, induct, check, begin_proof, obey}
use Rattle.vernac_exec.specs.Proofs.{first_number, context_in_focus, refocused, told_of_filling, has_unsolved, prove_at, prove, end_proof, obey_inside}
use Rattle.vernac_exec.specs.Readings.{read_plain, read_tokens, bullet, reading}
use Rattle.vernac_exec.specs.Sentences.{run_outside, run_inside, run_reading, sentence_run}
use Rattle.vernac_exec.proofs.AllMoves.{at_move}
use Rattle.vernac_exec.proofs.StandsLaws.{IsAt, StopsAt, Stands, stands_give, stands_pure, stands_refuse, stands_some, stands_step_of, stands_size, stands_forbid, stands_entry, stands_bind, stands_step}
use Rattle.vernac_exec.proofs.StandsOfKernel.{at_infer, at_declare}
use Rattle.vernac_exec.proofs.StandsOfElab.{AreAt, behind, behind_groups, behind_annotation, at_closed, at_elab, at_groups, at_constructor}

module _ (P : ℕ → ℕ → Type 0) where
  behind_bar : (place : Option TokenPlace) (rest : List Token) → AreAt P (bar place rest) → AreAt P rest
  behind_bar None rest at = at
  behind_bar (Some place) rest at = at.1

  module _ (env : List Slot) (calls : ℕ) where
    at_constructors : (params : List Hyp) (place : ℕ) (done : List Ctor) (cs : List Constructor) → AreAt P (constructors cs []) →
        Stands P (elab_constructors env calls params place done cs)
    at_constructors params place done [] at = stands_pure done
    at_constructors params place done (c ∷ cs) at =
        let inside = (behind_bar c.bar _ at).1 in
        stands_bind (at_constructor P env calls params place c.groups c.annotation (constructors cs []) inside)
        (λ ty. at_constructors params place (done ++ ctor c.name.text ty ∷ []) cs
        (behind_annotation P c.annotation (constructors cs []) (behind_groups P c.groups (annotation c.annotation (constructors cs [])) inside)))

  module _ (env : List Slot) (calls : ℕ) where
    at_declare_as : (kind : ItemKind) (d : Decl) → Stands P (declare_as env calls kind d)
    at_declare_as kind d = stands_bind (at_declare P env calls d) (λ made. stands_pure (Declares kind made))

    at_assume : (name : List ℕ) (s : Term) → AreAt P (spells s []) → Stands P (assume env calls name s)
    at_assume name s at =
        stands_step (stands_forbid (is_taken env name) code.NAME_TAKEN)
        (stands_bind (at_elab P env calls [] s [] at) (λ ty. at_declare_as item.Axiom (Assume name ty)))

    at_over : (kind : Binding) (inner : List Hyp) (s : Term) (rest : List Token) → AreAt P (spells s rest) → Stands P (elab_over env calls kind inner s)
    at_over kind inner s rest at =
        stands_bind (at_elab P env calls inner s rest at) (λ t. stands_step_of P (closed kind inner t) (at_closed P kind inner t))

    at_annotation : (inner : List Hyp) (a : Annotation) (rest : List Token) → AreAt P (annotation a rest) → Stands P (elab_annotation env calls inner a)
    at_annotation inner Untyped rest at = stands_pure None
    at_annotation inner (Typed colon s) rest at = stands_bind (at_over Product inner s rest at.1) (λ ty. stands_pure (Some ty))

    at_define : (name : List ℕ) (gs : GroupList) (a : Annotation) (q : TokenPlace) (s : Term) →
        AreAt P (groups gs (annotation a (symbol (codes ":=") q ∷ spells s []))) → Stands P (define env calls name gs a s)
    at_define name gs a q s at =
        let typed = behind_groups P gs (annotation a (symbol (codes ":=") q ∷ spells s [])) at in
        stands_step (stands_forbid (is_taken env name) code.NAME_TAKEN)
        (stands_bind (at_groups P env calls [] gs (annotation a (symbol (codes ":=") q ∷ spells s [])) at) (λ inner.
        stands_bind (at_annotation inner a (symbol (codes ":=") q ∷ spells s []) typed) (λ ty.
        stands_bind (at_over Function inner s [] (behind_annotation P a (symbol (codes ":=") q ∷ spells s []) typed).1) (λ value.
        at_declare_as item.Definition (Define name ty value false)))))

    at_family : (name : List ℕ) (params : List Hyp) (arity : Tree) (cs : List Constructor) → AreAt P (constructors cs []) →
        Stands P (elab_family env calls name params arity cs)
    at_family name params arity cs at =
        stands_step (stands_size (type_of_decl (family name params arity [])))
        (stands_bind (stands_entry env (assumed_type (family name params arity []))) (λ inner.
        stands_bind (at_constructors inner calls params (length env) [] cs at) (λ ctors. at_declare_as item.Inductive (Induct (family name params arity ctors)))))

    at_induct : (name : List ℕ) (gs : GroupList) (q : TokenPlace) (s : Term) (r : TokenPlace) (cs : List Constructor) →
        AreAt P (groups gs (symbol (codes ":") q ∷ spells s (symbol (codes ":=") r ∷ constructors cs []))) → Stands P (induct env calls name gs s cs)
    at_induct name gs q s r cs at =
        let arity = (behind_groups P gs (symbol (codes ":") q ∷ spells s (symbol (codes ":=") r ∷ constructors cs [])) at).1 in
        stands_step (stands_forbid (has_twice (written_names name cs)) code.DUPLICATE_NAME)
        (stands_step (stands_forbid (any_taken env (written_names name cs)) code.NAME_TAKEN)
        (stands_bind (at_groups P env calls [] gs (symbol (codes ":") q ∷ spells s (symbol (codes ":=") r ∷ constructors cs [])) at) (λ params.
        stands_bind (at_elab P env calls params s (symbol (codes ":=") r ∷ constructors cs []) arity) (λ t.
        at_family name params t cs (behind P s (symbol (codes ":=") r ∷ constructors cs []) arity).1))))

    at_check : (ctx : List Hyp) (s : Term) → AreAt P (spells s []) → Stands P (check env calls ctx s)
    at_check ctx s at =
        stands_bind (at_elab P env calls ctx s [] at) (λ t.
        stands_bind (at_infer P env calls ctx t) (λ i. stands_pure (Answers (judgement_text env ctx t i.ty))))

    at_begin : (name : List ℕ) (gs : GroupList) (q : TokenPlace) (s : Term) → AreAt P (groups gs (symbol (codes ":") q ∷ spells s [])) →
        Stands P (begin_proof env calls name gs s)
    at_begin name gs q s at =
        stands_step (stands_forbid (is_taken env name) code.NAME_TAKEN)
        (stands_bind (at_groups P env calls [] gs (symbol (codes ":") q ∷ spells s []) at) (λ inner.
        stands_bind (at_elab P env calls inner s [] (behind_groups P gs (symbol (codes ":") q ∷ spells s []) at).1) (λ statement.
        stands_bind (stands_step_of P (closed Product inner statement) (at_closed P Product inner statement)) (λ ty.
        stands_bind (at_declare P env calls (Admit name ty)) (λ admitted.
        stands_pure (Begins (theorem name ty admitted) (started (named_hyps env inner) statement)))))))

    at_obey : (c : Command) → AreAt P (command_tokens c) → Stands P (obey env calls c)
    unfolding obey
    at_obey (command.Assume word keyword name colon ty) at = at_assume name.text ty at.1.1.1
    at_obey (command.Define keyword name gs a assign value) at = at_define name.text gs a assign value at.1.1
    at_obey (command.State word keyword name gs colon ty) at = at_begin name.text gs colon ty at.1.1
    at_obey (command.Inductive keyword name gs colon arity assign cs) at = at_induct name.text gs colon arity assign cs at.1.1
    at_obey (command.Check keyword term) at = at_check [] term at.1
    at_obey (command.Proof place) at = stands_refuse code.NO_PROOF
    at_obey (command.Qed place) at = stands_refuse code.NO_PROOF
    at_obey (command.Defined place) at = stands_refuse code.NO_PROOF
    at_obey (command.Admitted place) at = stands_refuse code.NO_PROOF
    at_obey (command.Aborted place) at = stands_refuse code.NO_PROOF

-- in a proof under way
room_at : {A : Type 0} (P : ℕ → ℕ → Type 0) (b : Bool) (x : A) → (stop : Stop) → (if b then Ok x else Err (Out SizeLimit)) ≡ Err stop → StopsAt P stop
room_at P true x stop e = cc
room_at P false x stop e = let same : Out SizeLimit ≡ stop = cc in subst (StopsAt P) same tt

module _ (P : ℕ → ℕ → Type 0) where
  at_refined : (p : Proof) (n : ℕ) (by : Filling) → (stop : Stop) → refined_by p n by ≡ Err stop → StopsAt P stop
  at_refined p n (fill.Give s) stop e = room_at P (nat_le (length p.goals + length (holes s)) GOAL_LIMIT) (refined n s p) stop e
  at_refined p n fill.Admit stop e = cc

  module _ (env : List Slot) (calls : ℕ) (o : OpenProof) where
    at_prove_at : (n : ℕ) (g : Goal) (m : Move) → AreAt P (move_tokens m) → Stands P (prove_at env calls o n g m)
    at_prove_at n g m at =
        stands_bind (at_move P env calls g m at) (λ by. stands_bind (stands_give (refined_by o.proof n by) (at_refined o.proof n by)) (λ r.
        stands_pure (GoesOn r.proof (replaced r.goals o.focus) (told_of_filling by))))

    at_prove : (m : Move) → AreAt P (move_tokens m) → Stands P (prove env calls o m)
    at_prove m at =
        stands_bind (stands_some code.NO_GOAL (first_number o)) (λ n.
        stands_bind (stands_some code.NO_GOAL (unsolved_at o.proof.goals n)) (λ g. at_prove_at n g m at))

    at_end : (opaque : Bool) → Stands P (end_proof env calls opaque o)
    at_end opaque =
        stands_step (stands_forbid (has_unsolved o.proof.goals) code.GOALS_REMAIN)
        (stands_step (stands_forbid (nat_lt 0 (length o.proof.given_up)) code.ADMITTED_GOALS)
        (stands_bind (stands_give (bounded (whole_proof o.proof)) (room_at P (is_small (whole_proof o.proof)) (whole_proof o.proof))) (λ t.
        at_declare_as P env calls item.Theorem (Define o.theorem.name (Some o.theorem.ty) t opaque))))

    at_inside : (c : Command) → AreAt P (command_tokens c) → Stands P (obey_inside env calls o c)
    unfolding obey_inside
    at_inside (command.Assume word keyword name colon ty) at = stands_refuse code.PROOF_OPEN
    at_inside (command.Define keyword name gs a assign value) at = stands_refuse code.PROOF_OPEN
    at_inside (command.State word keyword name gs colon ty) at = stands_refuse code.PROOF_OPEN
    at_inside (command.Inductive keyword name gs colon arity assign cs) at = stands_refuse code.PROOF_OPEN
    at_inside (command.Check keyword term) at = at_check P env calls (context_in_focus o) term at.1
    at_inside (command.Proof place) at = stands_pure Passes
    at_inside (command.Qed place) at = at_end true
    at_inside (command.Defined place) at = at_end false
    at_inside (command.Admitted place) at = stands_pure (Declares item.Admitted o.theorem.admitted)
    at_inside (command.Aborted place) at = stands_pure Drops

-- what was read stands at its tokens
abbrev IsSpelled : (ℕ → ℕ → Type 0) → Reading → Type 0
IsSpelled P (read.Command c) = AreAt P (command_tokens c)
IsSpelled P (read.Move m) = AreAt P (move_tokens m)
IsSpelled P _ = Unit {0}

-- what is told of a token list, where it may stand at each token and at the period
module _ (P : ℕ → ℕ → Type 0) (tokens : Tokens) (all : AreAt P tokens.items) (last : IsAt P (next_place tokens.period [])) where
  at_rest : (used rest items : List Token) → AreAt P items → items ≡ used ++ rest → AreAt P rest
  at_rest [] rest items at e = subst (AreAt P) e at
  at_rest (t ∷ used) rest [] at e = cc
  at_rest (t ∷ used) rest (u ∷ items) at e = let more : items ≡ used ++ rest = cc in at_rest used rest items at.1 more

  at_next : (rest : List Token) → AreAt P rest → IsAt P (next_place tokens.period rest)
  at_next [] at = last
  at_next (t ∷ rest) at = at.0

  at_place : (place : Place) → IsPlaceIn tokens place → IsAt P place
  at_place place h = subst (IsAt P) (sym h.is) (at_next h.rest (at_rest h.used h.rest tokens.items all h.parts))

  at_refusal : {A : Type 0} (Is : List Token → A → Type 0) (fault_of : A → Option Fault) (f : Fault) →
      IsWholeAnswer Is fault_of tokens.items (Err f) → IsAt P (refusal tokens f).place
  at_refusal Is fault_of f h = at_place (refusal tokens f).place (refused_place Is fault_of tokens (refusal tokens f) (f, h, (refl, refl)))

  told_stops : {A : Type 0} (Is : List Token → A → Type 0) (fault_of : A → Option Fault) (make : A → Sentence) (outcome : Outcome A) →
      IsWholeAnswer Is fault_of tokens.items outcome → (stop : Stop) → read_as make (told tokens outcome) ≡ Err stop → StopsAt P stop
  told_stops Is fault_of make (Ok p) h stop e = cc
  told_stops Is fault_of make (Err f) h stop e =
      let same : Refused (refusal tokens f) ≡ stop = cc in subst (StopsAt P) same (at_refusal Is fault_of f h)

  command_spelled : (outcome : Outcome Command) → IsWholeAnswer IsCommandOf command_fault tokens.items outcome → (r : Reading) →
      read_plain (read_as CommandSentence (told tokens outcome)) ≡ Ok r → IsSpelled P r
  command_spelled (Ok p) h r e =
      let same : read.Command p.0 ≡ r = cc in subst (IsSpelled P) same (subst (AreAt P) (sym h.1.1) all)
  command_spelled (Err f) h r e = cc

  move_spelled : (outcome : Outcome Move) → IsWholeAnswer IsMoveOf move_fault tokens.items outcome → (r : Reading) →
      read_plain (read_as MoveSentence (told tokens outcome)) ≡ Ok r → IsSpelled P r
  move_spelled (Ok p) h r e =
      let same : read.Move p.0 ≡ r = cc in subst (IsSpelled P) same (subst (AreAt P) (sym h.1.1) all)
  move_spelled (Err f) h r e = cc

  read_stops_by : (b : Bool) (stop : Stop) →
      (if b then read_as CommandSentence (read_command tokens) else read_as MoveSentence (read_move tokens)) ≡ Err stop → StopsAt P stop
  read_stops_by true stop e = told_stops IsCommandOf command_fault CommandSentence (whole_command tokens.items) (answers_meet tokens.items) stop e
  read_stops_by false stop e = told_stops IsMoveOf move_fault MoveSentence (whole_move tokens.items) (moves_meet tokens.items) stop e

  plain_stops : (r : Result Sentence Stop) → ((stop : Stop) → r ≡ Err stop → StopsAt P stop) → (stop : Stop) → read_plain r ≡ Err stop → StopsAt P stop
  plain_stops (Ok (CommandSentence c)) at stop e = cc
  plain_stops (Ok (MoveSentence m)) at stop e = cc
  plain_stops (Err other) at stop e = let same : other ≡ stop = cc in subst (StopsAt P) same (at other refl)

  read_spelled_by : (b : Bool) (r : Reading) →
      read_plain (if b then read_as CommandSentence (read_command tokens) else read_as MoveSentence (read_move tokens)) ≡ Ok r → IsSpelled P r
  read_spelled_by true r e = command_spelled (whole_command tokens.items) (answers_meet tokens.items) r e
  read_spelled_by false r e = move_spelled (whole_move tokens.items) (moves_meet tokens.items) r e

  tokens_stop : (stop : Stop) → read_tokens tokens ≡ Err stop → StopsAt P stop
  tokens_stop stop e = plain_stops (read_sentence tokens) (read_stops_by (is_command tokens.items)) stop e

  tokens_spelled : (r : Reading) → read_tokens tokens ≡ Ok r → IsSpelled P r
  tokens_spelled r e = read_spelled_by (is_command tokens.items) r e

-- a stretch of whole characters
pub record IsInside (text : List ℕ) (from to : ℕ) : Type 0 where
  pub ordered : from ≤ to
  pub from_cut : IsCharBoundary text from
  pub to_cut : IsCharBoundary text to

tokens_at : (text : List ℕ) (at : ℕ) (ts : List Token) → AreTokensBehind text at ts → AreAt (IsInside text) ts
tokens_at text at [] h = tt
tokens_at text at (t ∷ ts) h =
    (record { ordered = omega (arith, h.1.some); from_cut = h.1.starts; to_cut = h.1.ends }, tokens_at text t.to ts h.2)

last_byte : (front : List ℕ) → get_or (front ++ 46 ∷ []) (length front) 0 ≡ 46
last_byte [] = refl
last_byte (b ∷ front) = last_byte front

cut_before : (front : List ℕ) → IsCharBoundary (front ++ 46 ∷ []) (length front)
cut_before front = (omega (arith, length-append front (46 ∷ [])), λ lt low. absurd (omega (arith, low, last_byte front)))

period_at : (front : List ℕ) (text : List ℕ) → text ≡ front ++ 46 ∷ [] → length text < 2 ^ 32 → IsInside text (length text - 1) (min (length text - 1 + 1) (2 ^ 32 - 1))
period_at front text e short =
    let size : length text ≡ length front + 1 = ap length e ∙ length-append front (46 ∷ []) in
    let from : length front ≡ length text - 1 = omega (arith, size) in
    let to : length text ≡ min (length text - 1 + 1) (2 ^ 32 - 1) = omega (arith, size, short) in
    let first : IsCharBoundary text (length front) = subst (λ t. IsCharBoundary t (length front)) (sym e) (cut_before front) in
    record {
      ordered = omega (arith, size, short);
      from_cut = subst (IsCharBoundary text) from first;
      to_cut = subst (IsCharBoundary text) to (IsCharBoundary-end text);
    }

-- what is read of a sentence, whatever its kind
module _ (text : List ℕ) (utf8 : IsUtf8 text) (short : length text < 2 ^ 32) where
  items_at : IsFit Plain text → AreAt (IsInside text) (sentence_tokens text).items
  items_at fit = tokens_at text 0 (sentence_tokens text).items (list_placed text (sentence_tokens text) (law text utf8 fit))

  reading_stops : (kind : Kind) → IsFit kind text → (stop : Stop) → reading kind text ≡ Err stop → StopsAt (IsInside text) stop
  unfolding reading
  reading_stops Plain fit stop e =
      tokens_stop (IsInside text) (sentence_tokens text) (items_at fit) (period_at fit.front text fit.parts short) stop e
  reading_stops Bullet fit stop e = cc
  reading_stops BraceOpen fit stop e = cc
  reading_stops BraceClose fit stop e = cc
  reading_stops Unfinished fit stop e =
      let same : Refused (record { code = code.UNFINISHED; place = Whole }) ≡ stop = cc in subst (StopsAt (IsInside text)) same tt

  reading_spelled : (kind : Kind) → IsFit kind text → (r : Reading) → reading kind text ≡ Ok r →
      IsSpelled (IsInside text) r
  unfolding reading
  reading_spelled Plain fit r e =
      tokens_spelled (IsInside text) (sentence_tokens text) (items_at fit) (period_at fit.front text fit.parts short) r e
  reading_spelled Bullet fit r e = let same : bullet text ≡ r = cc in subst (IsSpelled (IsInside text)) same tt
  reading_spelled BraceOpen fit r e = let same : read.OpenBrace ≡ r = cc in subst (IsSpelled (IsInside text)) same tt
  reading_spelled BraceClose fit r e = let same : read.CloseBrace ≡ r = cc in subst (IsSpelled (IsInside text)) same tt
  reading_spelled Unfinished fit r e = cc

module _ (P : ℕ → ℕ → Type 0) (env : List Slot) (calls : ℕ) where
  at_outside : (r : Reading) → IsSpelled P r → Stands P (run_outside env calls r)
  at_outside (read.Command c) at = at_obey P env calls c at
  at_outside (read.Move m) at = stands_refuse code.NO_PROOF
  at_outside (read.Bullet mark count) at = stands_refuse code.NO_PROOF
  at_outside read.OpenBrace at = stands_refuse code.NO_PROOF
  at_outside read.CloseBrace at = stands_refuse code.NO_PROOF

  at_run_inside : (o : OpenProof) (r : Reading) → IsSpelled P r → Stands P (run_inside env calls o r)
  at_run_inside o (read.Command c) at = at_inside P env calls o c at
  at_run_inside o (read.Move m) at = at_prove P env calls o m at
  at_run_inside o (read.Bullet mark count) at = stands_pure (refocused o (after_bullet mark count o.focus))
  at_run_inside o read.OpenBrace at = stands_pure (refocused o (after_brace_open o.focus))
  at_run_inside o read.CloseBrace at = stands_pure (refocused o (after_brace_close o.focus))

  at_reading : (opened : Option OpenProof) (r : Reading) → IsSpelled P r → Stands P (run_reading env calls opened r)
  at_reading None r at = at_outside r at
  at_reading (Some o) r at = at_run_inside o r at

  read_then : (opened : Option OpenProof) (read : Result Reading Stop) → ((stop : Stop) → read ≡ Err stop → StopsAt P stop) →
      ((r : Reading) → read ≡ Ok r → IsSpelled P r) → (left : ℕ) (stop : Stop) →
      (and_then read (run_reading env calls opened) left).answer ≡ Err stop → StopsAt P stop
  read_then opened (Ok r) stops spelled left stop e = (at_reading opened r (spelled r refl)).stands left stop e
  read_then opened (Err other) stops spelled left stop e = let same : other ≡ stop = cc in subst (StopsAt P) same (stops other refl)

module _ (env : List Slot) (calls : ℕ) (opened : Option OpenProof) where
  pub sentence_stands : (kind : Kind) (text : List ℕ) → IsUtf8 text → IsFit kind text → length text < 2 ^ 32 →
      Stands (IsInside text) (sentence_run env calls opened kind text)
  unfolding sentence_run
  sentence_stands kind text utf8 fit short =
      record {
        stands = λ left stop e. read_then (IsInside text) env calls opened (reading kind text) (reading_stops text utf8 short kind fit)
            (reading_spelled text utf8 short kind fit) left stop e;
      }

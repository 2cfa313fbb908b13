-- Each step answers a request that waits, or leaves it waiting.
use Rattle.std.proofs.Common.{◌≡◌, ◌⊎◌, inl, inr, ⊎_elim, ℕ, zero, suc, ◌<◌, Bool, true, false, not, if◌then◌else◌, nat_le, int_le, Option, None, Some, is_some, Result, Ok, Err, List, [], ◌∷◌, ◌++◌, map, filter, length, get_or, arith, refl, sym, ap, subst, ◌∙◌}
use Rattle.std.specs.Prelude.{All, Contains, position}
use Rattle.std.proofs.lemmas.List.Elements.{All-contains_itself, Contains-append_left, Contains-append_right}
use Rattle.std.proofs.lemmas.List.Quantifiers.{position-Some}
use Rattle.std.proofs.lemmas.Slice.Eq.{bytes_eq-Decides}
use Rattle.std.proofs.lemmas.Bool.Decides.{Decides-int_eq}
use Rattle.base_core.specs.declared.limits.TheConstants.{DOCUMENT_LIMIT, WAITING_LIMIT}
use Rattle.base_core.specs.declared.places.Change.{Change}
use Rattle.utf16_doc.specs.declared.stops.DocStop.{DocStop}
use Rattle.utf16_doc.specs.declared.stops.DocStop.TheVariants as stop
use Rattle.lsp_types.specs.Bodies.{error_body}
use Rattle.lsp_types.specs.declared.error_codes.ErrorCode.{ErrorCode}
use Rattle.lsp_types.specs.declared.error_codes.ErrorCode.TheVariants as error
use Rattle.lsp_types.specs.declared.messages.Id.{Id}
use Rattle.lsp_types.specs.declared.messages.Id.TheVariants.{Number, Word, Null}
use Rattle.lsp_types.specs.declared.messages.Call.{Call}
use Rattle.lsp_types.specs.declared.messages.Call.TheVariants.{Initialize, Shutdown, Symbols, Goals}
use Rattle.lsp_types.specs.declared.messages.Note.{Note}
use Rattle.lsp_types.specs.declared.messages.Note.TheVariants as note
use Rattle.lsp_types.specs.declared.messages.Incoming.{Incoming}
use Rattle.lsp_types.specs.declared.messages.Incoming.TheVariants as incoming
use Rattle.lsp_types.specs.declared.messages.DecodeFault.{DecodeFault}
use Rattle.lsp_types.specs.declared.messages.DecodeFault.TheVariants as fault
use Rattle.doc_check.specs.Check.{Views}
use Rattle.doc_check.specs.Document.{all_done}
use Rattle.sched_core.specs.declared.events.Event.{Event}
use Rattle.sched_core.specs.declared.events.Event.TheVariants as event
use Rattle.sched_core.specs.declared.events.Exit.{Exit}
use Rattle.sched_core.specs.declared.events.Exit.TheVariants.{Early, Clean}
use Rattle.sched_core.specs.declared.phase.Phase.{Phase}
use Rattle.sched_core.specs.declared.phase.Phase.TheVariants.{Fresh, Running, ShutDown}
use Rattle.sched_core.specs.declared.waiting.Question.TheVariants.{Outline, Goals as GoalsAt}
use Rattle.sched_core.specs.declared.waiting.Waiting.{Waiting}
use Rattle.sched_core.specs.Step.{Step, stays}
use Rattle.sched_core.specs.Session.{Document, Session, document_at, place_of, first_unended, set_waiting}
use Rattle.sched_core.specs.Waiting.{told_of, answer, is_ready, is_ready_for, is_about, same_id, cancel_at, wait_for, ask_at, at_open, request_for, wanted_at}
use Rattle.sched_core.specs.Documents.{at_known, is_too_long, text_behind, did_open, renew_by, change_at, close_at}
use Rattle.sched_core.specs.Work.{granted, grant_at, run_on, run_at, run_first, waits, idle}
use Rattle.sched_core.specs.Messages.{by_phase, request_fresh, request_running, notify_exit, notify_running, refuse_body, hear}
use Rattle.sched_core.specs.Plain.{step}
use Rattle.sched_core.specs.Answered.{Answers, IsAnswered, WaitsOrIsAnswered}
use Rattle.sched_core.proofs.Places.{contains_later, here_or_beside}
use Rattle.sched_core.proofs.PendingLemmas.{each_of}

-- ---- some are answered

-- an item is among those that are meant, or among the others
abbrev Parted : {X : Type 0} → (X → Bool) → List X → X → Type 0
Parted which xs x = Contains (filter which xs) x ⊎ Contains (filter (λ y. not (which y)) xs) x

parted_first : {X : Type 0} (which : X → Bool) (x : X) (xs : List X) → Parted which (x ∷ xs) x
parted_first which x xs = by (which x) where
  by : (b : Bool) → Contains (if b then x ∷ filter which xs else filter which xs) x ⊎ Contains (if not b then x ∷ filter (λ y. not (which y)) xs else filter (λ y. not (which y)) xs) x
  by true = inl (zero, omega arith, refl)
  by false = inr (zero, omega arith, refl)

in_more : {X : Type 0} (b : Bool) (y : X) (xs : List X) (x : X) → Contains xs x → Contains (if b then y ∷ xs else xs) x
in_more true y xs x h = contains_later y xs x h
in_more false y xs x h = h

parted : {X : Type 0} (which : X → Bool) (xs : List X) (x : X) → Contains xs x → Parted which xs x
parted which [] x h = absurd (omega (arith, h.1))
parted which (y ∷ ys) x h = by (parted which ys x) h.0 h.1 h.2 where
  by : (Contains ys x → Parted which ys x) → (k : ℕ) → k < length (y ∷ ys) → get_or (y ∷ ys) k x ≡ x → Parted which (y ∷ ys) x
  by later zero within is = subst (Parted which (y ∷ ys)) is (parted_first which y ys)
  by later (suc k) within is =
      ⊎_elim (λ h. inl (in_more (which y) y (filter which ys) x h)) (λ h. inr (in_more (not (which y)) y (filter (λ z. not (which z)) ys) x h))
      (later (k, omega (arith, within), is))

mapped : {X Y : Type 0} (f : X → Y) (xs : List X) (x : X) → Contains xs x → Contains (map f xs) (f x)
mapped f [] x h = absurd (omega (arith, h.1))
mapped f (y ∷ ys) x h = by (mapped f ys x) h.0 h.1 h.2 where
  by : (Contains ys x → Contains (map f ys) (f x)) → (k : ℕ) → k < length (y ∷ ys) → get_or (y ∷ ys) k x ≡ x → Contains (map f (y ∷ ys)) (f x)
  by later zero within is = (zero, omega arith, ap f is)
  by later (suc k) within is = contains_later (f y) (map f ys) (f x) (later (k, omega (arith, within), is))

-- all of a session's requests, behind a step
pub record ForgetsNone (session : Session) (made : Step Session) : Type 0 where
  pub each : All (WaitsOrIsAnswered made) session.waiting

module _ (session : Session) where
  each_in : (made : Step Session) → ((w : Waiting) → Contains session.waiting w → WaitsOrIsAnswered made w) → ForgetsNone session made
  each_in made f = record { each = each_of {R = WaitsOrIsAnswered made} session.waiting f (All-contains_itself session.waiting) }

  -- the others go on waiting
  answered_those : (which : Waiting → Bool) (body : Waiting → List ℕ) (made : Step Session) → ((w : Waiting) → Answers w (body w)) → made.state.waiting ≡ filter (λ w. not (which w)) session.waiting → ((b : List ℕ) → Contains (map body (filter which session.waiting)) b → Contains made.bodies b) → ForgetsNone session made
  answered_those which body made right left told =
      each_in made (λ w h. ⊎_elim
      (λ meant. inr (record { body = body w; listed = told (body w) (mapped body (filter which session.waiting) w meant); answers = right w }))
      (λ other. inl (subst (λ ws. Contains ws w) (sym left) other))
      (parted which session.waiting w h))

  all_stay : (made : Step Session) → made.state.waiting ≡ session.waiting → ForgetsNone session made
  all_stay made e = each_in made (λ w h. inl (subst (λ ws. Contains ws w) (sym e) h))

  by_either : (test : Bool) (x y : Step Session) → ForgetsNone session x → ForgetsNone session y → ForgetsNone session (if test then x else y)
  by_either true x y h k = h
  by_either false x y h k = k

  known_answers : (found : Option ℕ) (next : ℕ → Session → Step Session) → ((place : ℕ) → ForgetsNone session (next place session)) → ForgetsNone session (at_known found next session)
  known_answers None next h = all_stay _ refl
  known_answers (Some place) next h = h place

  open_answers : (id : Id) (found : Option ℕ) (next : ℕ → Session → Step Session) → ((place : ℕ) → ForgetsNone session (next place session)) → ForgetsNone session (at_open id found next session)
  open_answers id None next h = all_stay _ refl
  open_answers id (Some place) next h = h place

  refused : (code : ErrorCode) (w : Waiting) → Answers w (error_body w.id code)
  refused code w = inr (code, refl)

  told : (views : Views) (d : Document) (w : Waiting) → Answers w (answer views d w)
  told views d w = inl (told_of views d w.question, refl)

  opened_answers : (views : Views) (uri : List ℕ) (version : _) (text : List ℕ) → ForgetsNone session (did_open views uri version text session)
  opened_answers views uri version text =
      by_either (is_some (place_of uri session.documents)) _ _ (all_stay _ refl)
      (by_either (nat_le DOCUMENT_LIMIT (length session.documents)) _ _ (all_stay _ refl)
      (by_either (is_too_long text) _ _ (all_stay _ refl) (all_stay _ refl)))

  renew_answers : (views : Views) (version : _) (text : Result (List ℕ) DocStop) (place : ℕ) → ForgetsNone session (renew_by views place version text session)
  renew_answers views version (Ok text) place =
      answered_those (is_about (document_at session place).uri) (λ w. error_body w.id error.ContentModified) (renew_by views place version (Ok text) session) (refused error.ContentModified) refl (Contains-append_left _ _)
  renew_answers views version (Err stop.RangeReversed) place = all_stay _ refl
  renew_answers views version (Err stop.TooLong) place = all_stay _ refl
  renew_answers views version (Err stop.NoMem) place = all_stay _ refl

  change_answers : (views : Views) (version : _) (changes : List Change) (place : ℕ) → ForgetsNone session (change_at views version changes place session)
  change_answers views version changes place =
      by_either (int_le version (document_at session place).version) _ _ (all_stay _ refl) (renew_answers views version (text_behind changes (document_at session place)) place)

  close_answers : (place : ℕ) → ForgetsNone session (close_at place session)
  close_answers place =
      answered_those (is_about (document_at session place).uri) (λ w. error_body w.id error.ContentModified) (close_at place session) (refused error.ContentModified) refl (Contains-append_left _ _)

  grant_answers : (views : Views) (units place : ℕ) → ForgetsNone session (grant_at views units place session)
  grant_answers views units place =
      let behind : Document = document_at (granted views units place session).state place in
      by_either (all_done (document_at session place).check) _ _ (all_stay _ refl)
      (answered_those (is_ready_for behind) (answer views behind) _ (told views behind) refl (Contains-append_right _ _))

  run_answers : (views : Views) (place : ℕ) → ForgetsNone session (run_at views place session)
  run_answers views place =
      let behind : Document = document_at (run_on views place session).state place in
      answered_those (is_ready_for behind) (answer views behind) (run_at views place session) (told views behind) refl (Contains-append_right _ _)

  -- the earliest of an id
  same_one : (one other : Id) → same_id one other ≡ true → one ≡ other
  same_one (Number n) (Number m) e = ap Number ((Decides-int_eq n m).0 e)
  same_one (Word u) (Word v) e = ap Word ((bytes_eq-Decides u v).0 e)
  same_one Null Null e = refl
  same_one (Number n) (Word v) e = cc
  same_one (Number n) Null e = cc
  same_one (Word u) (Number m) e = cc
  same_one (Word u) Null e = cc
  same_one Null (Number m) e = cc
  same_one Null (Word v) e = cc

  cancel_answers : (id : Id) (found : Option ℕ) → position (λ (w : Waiting). same_id w.id id) session.waiting ≡ found → ForgetsNone session (cancel_at id found session)
  cancel_answers id None e = all_stay _ refl
  cancel_answers id (Some place) e =
      each_in (cancel_at id (Some place) session) (λ w h. ⊎_elim (λ here. inr (this_one w here)) (λ beside. inl beside.0) (here_or_beside session.waiting place none w h)) where
        none : Waiting
        none = request_for id [] Outline

        this_one : (w : Waiting) → w ≡ get_or session.waiting place none → IsAnswered (cancel_at id (Some place) session).bodies w
        this_one w here =
            let same : w.id ≡ id = ap (λ (v : Waiting). v.id) here ∙ same_one (get_or session.waiting place none).id id (position-Some (λ (v : Waiting). same_id v.id id) session.waiting place none e).1 in
            record { body = error_body id error.RequestCancelled; listed = (zero, omega arith, refl); answers = inr (error.RequestCancelled, ap (λ i. error_body i error.RequestCancelled) (sym same)) }

  ask_answers : (views : Views) (place : ℕ) (w : Waiting) → ForgetsNone session (ask_at views place w session)
  ask_answers views place w =
      by_either (is_ready (document_at session place) w) _ (wait_for w session) (all_stay _ refl)
      (by_either (nat_le WAITING_LIMIT (length session.waiting)) _ (stays (set_waiting (session.waiting ++ w ∷ []) session)) (all_stay _ refl)
      (each_in _ (λ v h. inl (Contains-append_left session.waiting (w ∷ []) v h))))

  note_answers : (views : Views) (heard : Note) → ForgetsNone session (notify_running views heard session)
  note_answers views note.Initialized = all_stay _ refl
  note_answers views note.Exit = all_stay _ refl
  note_answers views (note.Cancel id) = cancel_answers id (position (λ w. same_id w.id id) session.waiting) refl
  note_answers views (note.DidOpen uri version text) = opened_answers views uri version text
  note_answers views (note.DidChange uri version changes) = known_answers (place_of uri session.documents) _ (change_answers views version changes)
  note_answers views (note.DidClose uri) = known_answers (place_of uri session.documents) _ close_answers
  note_answers views (note.Grant uri units) = by_either session.paced _ _ (known_answers (place_of uri session.documents) _ (grant_answers views units)) (all_stay _ refl)
  note_answers views note.Trim = all_stay _ refl
  note_answers views note.Other = all_stay _ refl
  note_answers views note.BadNote = all_stay _ refl

  exit_answers : (exit : Exit) (heard : Note) → ForgetsNone session (notify_exit exit heard session)
  exit_answers exit note.Initialized = all_stay _ refl
  exit_answers exit note.Exit = all_stay _ refl
  exit_answers exit (note.Cancel id) = all_stay _ refl
  exit_answers exit (note.DidOpen uri version text) = all_stay _ refl
  exit_answers exit (note.DidChange uri version changes) = all_stay _ refl
  exit_answers exit (note.DidClose uri) = all_stay _ refl
  exit_answers exit (note.Grant uri units) = all_stay _ refl
  exit_answers exit note.Trim = all_stay _ refl
  exit_answers exit note.Other = all_stay _ refl
  exit_answers exit note.BadNote = all_stay _ refl

  fresh_answers : (id : Id) (call : Call) → ForgetsNone session (request_fresh id call session)
  fresh_answers id (Initialize utf8) = all_stay _ refl
  fresh_answers id Shutdown = all_stay _ refl
  fresh_answers id (Symbols uri) = all_stay _ refl
  fresh_answers id (Goals uri position after) = all_stay _ refl

  running_answers : (views : Views) (id : Id) (call : Call) → ForgetsNone session (request_running views id call session)
  running_answers views id (Initialize utf8) = all_stay _ refl
  running_answers views id Shutdown =
      answered_those (λ w. true) (λ w. error_body w.id error.RequestCancelled) (request_running views id Shutdown session) (refused error.RequestCancelled) refl (Contains-append_left _ _)
  running_answers views id (Symbols uri) = open_answers id (place_of uri session.documents) _ (λ place. ask_answers views place (request_for id uri Outline))
  running_answers views id (Goals uri at after) =
      open_answers id (place_of uri session.documents) _ (λ place. ask_answers views place (request_for id uri (GoalsAt at (wanted_at (document_at session place) at after))))

  phase_answers : (phase : Phase) (x y z : Step Session) → ForgetsNone session x → ForgetsNone session y → ForgetsNone session z → ForgetsNone session (by_phase phase x y z)
  phase_answers Fresh x y z h k l = h
  phase_answers Running x y z h k l = k
  phase_answers ShutDown x y z h k l = l

  body_answers : (why : DecodeFault) → ForgetsNone session (refuse_body why session)
  body_answers fault.NotJson = all_stay _ refl
  body_answers (fault.NotRequest id) = all_stay _ refl
  body_answers (fault.BadParams id initialize) = all_stay _ refl
  body_answers (fault.UnknownMethod id) = all_stay _ refl
  body_answers fault.NoMem = all_stay _ refl

  hear_answers : (views : Views) (message : Result Incoming DecodeFault) → ForgetsNone session (hear views message session)
  hear_answers views (Ok (incoming.Request id call)) = phase_answers session.phase _ _ _ (fresh_answers id call) (running_answers views id call) (all_stay _ refl)
  hear_answers views (Ok (incoming.Note heard)) = phase_answers session.phase _ _ _ (exit_answers Early heard) (note_answers views heard) (exit_answers Clean heard)
  hear_answers views (Ok incoming.Reply) = all_stay _ refl
  hear_answers views (Err why) = body_answers why

  first_answers : (views : Views) (found : Option ℕ) → ForgetsNone session (run_first views found session)
  first_answers views None = all_stay _ refl
  first_answers views (Some place) = run_answers views place

  idle_answers : (views : Views) → ForgetsNone session (idle views session)
  idle_answers views = by_either (waits session) _ _ (all_stay _ refl) (first_answers views (first_unended session.documents))

pub steps_forget_none : (views : Views) (session : Session) (e : Event) → All (WaitsOrIsAnswered (step views session e)) session.waiting
steps_forget_none views session (event.Message message) = (hear_answers session views message).each
steps_forget_none views session event.Idle = (idle_answers session views).each

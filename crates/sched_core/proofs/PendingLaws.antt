-- Whatever comes, each request that waits does so for an open document; so none waits where all are checked.
use Rattle.std.proofs.Common.{◌≡◌, ℕ, ◌<◌, ◌||◌, Bool, true, false, not, if◌then◌else◌, Option, None, Some, is_some, Result, Ok, Err, List, [], ◌∷◌, filter, length, le-leb, leb-true, arith, refl, sym, ap, subst, ◌∙◌}
use Rattle.std.specs.Prelude.{All}
use Rattle.std.proofs.lemmas.List.Elements.{All-nil, All-head, All-contains, All-from_get_or}
use Rattle.std.proofs.lemmas.List.Quantifiers.{position-Some}
use Rattle.lsp_types.specs.declared.messages.Id.{Id}
use Rattle.lsp_types.specs.declared.messages.Call.{Call}
use Rattle.lsp_types.specs.declared.messages.Call.TheVariants.{Initialize, Shutdown, Symbols, Goals}
use Rattle.lsp_types.specs.declared.messages.Note.{Note}
use Rattle.lsp_types.specs.declared.messages.Note.TheVariants as note
use Rattle.lsp_types.specs.declared.messages.Incoming.{Incoming}
use Rattle.lsp_types.specs.declared.messages.Incoming.TheVariants as incoming
use Rattle.lsp_types.specs.declared.messages.DecodeFault.{DecodeFault}
use Rattle.lsp_types.specs.declared.messages.DecodeFault.TheVariants as fault
use Rattle.lsp_types.specs.declared.error_codes.ErrorCode.TheVariants as error
use Rattle.doc_check.specs.Check.{count, Views}
use Rattle.doc_check.specs.Document.{done, all_done}
use Rattle.sched_core.specs.declared.events.Event.{Event}
use Rattle.sched_core.specs.declared.events.Event.TheVariants as event
use Rattle.sched_core.specs.declared.events.Exit.{Exit}
use Rattle.sched_core.specs.declared.events.Exit.TheVariants.{Early, Clean}
use Rattle.sched_core.specs.declared.phase.Phase.{Phase}
use Rattle.sched_core.specs.declared.phase.Phase.TheVariants.{Fresh, Running, ShutDown}
use Rattle.sched_core.specs.declared.waiting.Question.{Question}
use Rattle.sched_core.specs.declared.waiting.Question.TheVariants.{Outline, Goals as GoalsAt}
use Rattle.sched_core.specs.declared.waiting.Waiting.{Waiting}
use Rattle.sched_core.specs.Step.{Step, stays}
use Rattle.sched_core.specs.Session.{Document, Session, document_in, first_unended}
use Rattle.sched_core.specs.Waiting.{can_tell}
use Rattle.sched_core.specs.Work.{is_shut_down, waits, idle, run_at, run_first}
use Rattle.sched_core.specs.Messages.{by_phase, request_fresh, request_running, refuse_request, notify_exit, notify_running, refuse_body, hear}
use Rattle.sched_core.specs.Plain.{step}
use Rattle.sched_core.specs.Pending.{HasEnough, WaitsFor, WaitInPhase, AllWaitForOpen, KeepsWaiting}
use Rattle.sched_core.proofs.Places.{none_passes}
use Rattle.sched_core.proofs.PendingLemmas.{AllWait}
use Rattle.sched_core.proofs.PendingSteps.{Keeps, note_keeps, outline_keeps, goals_keep, run_keeps}

-- ---- each step

none_wait : (documents : List Document) (waiting : List Waiting) → waiting ≡ [] → AllWait documents waiting
none_wait documents waiting e = subst (AllWait documents) (sym e) (All-nil (WaitsFor documents))

-- whatever the phase, a step that leaves the phase and none waiting where none was
in_phase : (session : Session) (made : Step Session) (phase : Phase) → session.phase ≡ phase → Keeps session made → (session.waiting ≡ [] → made.state.waiting ≡ []) → WaitInPhase phase session.documents session.waiting → WaitInPhase phase made.state.documents made.state.waiting
in_phase session made Fresh e k none h = none h
in_phase session made Running e k none h = k.wait
in_phase session made ShutDown e k none h = none h

running : (session : Session) (made : Step Session) → session.phase ≡ Running → Keeps session made → KeepsWaiting session made
running session made e k = record { paced = k.paced; waits = subst (λ p. WaitInPhase p made.state.documents made.state.waiting) (sym (k.phase ∙ e)) k.wait }

at_phase : (session : Session) (phase : Phase) → session.phase ≡ phase → AllWaitForOpen session → WaitInPhase phase session.documents session.waiting
at_phase session phase e h = subst (λ p. WaitInPhase p session.documents session.waiting) e h

module _ (session : Session) (h : AllWaitForOpen session) where
  unchanged : (made : Step Session) → made.state ≡ session → KeepsWaiting session made
  unchanged made e = record { paced = ap (λ (s : Session). s.paced) e; waits = subst AllWaitForOpen (sym e) h }

  fresh_keeps : (id : Id) (call : Call) → session.phase ≡ Fresh → KeepsWaiting session (request_fresh id call session)
  fresh_keeps id (Initialize utf8) e = record { paced = refl; waits = none_wait session.documents session.waiting (at_phase session Fresh e h) }
  fresh_keeps id Shutdown e = unchanged _ refl
  fresh_keeps id (Symbols uri) e = unchanged _ refl
  fresh_keeps id (Goals uri position after) e = unchanged _ refl

  all_refused : (waiting : List Waiting) → filter (λ w. not true) waiting ≡ []
  all_refused [] = refl
  all_refused (w ∷ ws) = all_refused ws

  running_keeps : (views : Views) (id : Id) (call : Call) → session.phase ≡ Running → KeepsWaiting session (request_running views id call session)
  running_keeps views id (Initialize utf8) e = unchanged _ refl
  running_keeps views id Shutdown e = record { paced = refl; waits = all_refused session.waiting }
  running_keeps views id (Symbols uri) e = running session (request_running views id (Symbols uri) session) e (outline_keeps session (at_phase session Running e h) views id uri)
  running_keeps views id (Goals uri at after) e = running session (request_running views id (Goals uri at after) session) e (goals_keep session (at_phase session Running e h) views id uri at after)

  request_keeps : (views : Views) (id : Id) (call : Call) (phase : Phase) → session.phase ≡ phase → KeepsWaiting session (by_phase phase (request_fresh id call session) (request_running views id call session) (refuse_request error.InvalidRequest id session))
  request_keeps views id call Fresh e = fresh_keeps id call e
  request_keeps views id call Running e = running_keeps views id call e
  request_keeps views id call ShutDown e = unchanged _ refl

  exit_keeps : (exit : Exit) (heard : Note) → KeepsWaiting session (notify_exit exit heard session)
  exit_keeps exit note.Initialized = unchanged _ refl
  exit_keeps exit note.Exit = unchanged _ refl
  exit_keeps exit (note.Cancel id) = unchanged _ refl
  exit_keeps exit (note.DidOpen uri version text) = unchanged _ refl
  exit_keeps exit (note.DidChange uri version changes) = unchanged _ refl
  exit_keeps exit (note.DidClose uri) = unchanged _ refl
  exit_keeps exit (note.Grant uri units) = unchanged _ refl
  exit_keeps exit note.Trim = unchanged _ refl
  exit_keeps exit note.Other = unchanged _ refl
  exit_keeps exit note.BadNote = unchanged _ refl

  notify_keeps : (views : Views) (heard : Note) (phase : Phase) → session.phase ≡ phase → KeepsWaiting session (by_phase phase (notify_exit Early heard session) (notify_running views heard session) (notify_exit Clean heard session))
  notify_keeps views heard Fresh e = exit_keeps Early heard
  notify_keeps views heard Running e = running session (notify_running views heard session) e (note_keeps session (at_phase session Running e h) views heard)
  notify_keeps views heard ShutDown e = exit_keeps Clean heard

  body_keeps : (why : DecodeFault) → KeepsWaiting session (refuse_body why session)
  body_keeps fault.NotJson = unchanged _ refl
  body_keeps (fault.NotRequest id) = unchanged _ refl
  body_keeps (fault.BadParams id initialize) = unchanged _ refl
  body_keeps (fault.UnknownMethod id) = unchanged _ refl
  body_keeps fault.NoMem = unchanged _ refl

  hear_keeps : (views : Views) (message : Result Incoming DecodeFault) → KeepsWaiting session (hear views message session)
  hear_keeps views (Ok (incoming.Request id call)) = request_keeps views id call session.phase refl
  hear_keeps views (Ok (incoming.Note heard)) = notify_keeps views heard session.phase refl
  hear_keeps views (Ok incoming.Reply) = unchanged _ refl
  hear_keeps views (Err why) = body_keeps why

  -- nothing came
  all_wait : (phase : Phase) → WaitInPhase phase session.documents session.waiting → AllWait session.documents session.waiting
  all_wait Fresh k = none_wait session.documents session.waiting k
  all_wait Running k = k
  all_wait ShutDown k = none_wait session.documents session.waiting k

  run_first_keeps : (views : Views) (found : Option ℕ) → first_unended session.documents ≡ found → KeepsWaiting session (run_first views found session)
  run_first_keeps views None e = unchanged _ refl
  run_first_keeps views (Some place) e =
      let within : place < length session.documents = (position-Some (λ (d : Document). not (all_done d.check)) session.documents place (document_in [] 0) e).0 in
      let kept : Keeps session (run_at views place session) = run_keeps session (all_wait session.phase h) views place within in
      record { paced = refl; waits = in_phase session (run_at views place session) session.phase refl kept (λ none. ap (filter _) none) h }

  idle_keeps : (views : Views) → KeepsWaiting session (idle views session)
  idle_keeps views = by (waits session) where
    by : (test : Bool) → KeepsWaiting session (if test then stays session else run_first views (first_unended session.documents) session)
    by true = unchanged _ refl
    by false = run_first_keeps views (first_unended session.documents) refl

pub steps_keep_waiting : (views : Views) (session : Session) (e : Event) → AllWaitForOpen session → KeepsWaiting session (step views session e)
steps_keep_waiting views session (event.Message message) h = hear_keeps session h views message
steps_keep_waiting views session event.Idle h = idle_keeps session h views

-- ---- where all is checked

-- a document that is checked can tell all that it has enough for
tells_all : (d : Document) (q : Question) → HasEnough d q → all_done d.check ≡ true → can_tell d q ≡ true
tells_all d Outline enough all = all
tells_all d (GoalsAt at number) enough all = le-leb number (done d.check) (omega (arith, enough, leb-true (count d.check.text) (done d.check) all))

not_false : (b : Bool) → not b ≡ false → b ≡ true
not_false true e = refl
not_false false e = sym e

differ : {P : Type 0} (b : Bool) → b ≡ true → b ≡ false → P
differ b yes_it no_it = let clash : true ≡ false = sym yes_it ∙ no_it in cc

all_checked : (documents : List Document) → first_unended documents ≡ None → All (λ (d : Document). all_done d.check ≡ true) documents
all_checked documents e =
    All-from_get_or (λ (d : Document). all_done d.check ≡ true) documents (document_in [] 0)
    (λ k within. not_false (all_done (document_in documents k).check) (none_passes (λ (d : Document). not (all_done d.check)) documents (document_in [] 0) e k within))

nobody : (documents : List Document) (waiting : List Waiting) → first_unended documents ≡ None → AllWait documents waiting → waiting ≡ []
nobody documents [] e h = refl
nobody documents (w ∷ ws) e h =
    let one : WaitsFor documents w = All-head (WaitsFor documents) w ws h in
    let checked : all_done one.document.check ≡ true = All-contains (λ (d : Document). all_done d.check ≡ true) documents one.document (all_checked documents e) one.listed in
    differ (can_tell one.document w.question) (tells_all one.document w.question one.enough checked) one.unready

no_place : (found : Option ℕ) → not (is_some found) ≡ true → found ≡ None
no_place None e = refl
no_place (Some place) e = cc

nobody_in : (phase : Phase) (documents : List Document) (waiting : List Waiting) → WaitInPhase phase documents waiting → (is_shut_down phase || not (is_some (first_unended documents))) ≡ true → waiting ≡ []
nobody_in Fresh documents waiting h e = h
nobody_in Running documents waiting h e = nobody documents waiting (no_place (first_unended documents) e) h
nobody_in ShutDown documents waiting h e = h

pub none_waits_in_vain : (session : Session) → AllWaitForOpen session → session.paced ≡ false → waits session ≡ true → session.waiting ≡ []
none_waits_in_vain session h unpaced e =
    nobody_in session.phase session.documents session.waiting h (subst (λ p. (p || (is_shut_down session.phase || not (is_some (first_unended session.documents)))) ≡ true) unpaced e)

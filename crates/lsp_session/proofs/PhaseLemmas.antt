-- How the steps of a session move its phase, and where they end it.
use Rattle.std.proofs.Common.{◌≡◌, ℕ, ℤ, Bool, true, false, Option, None, Some, Result, Ok, Err, List, refl, ◌∙◌, if◌then◌else◌, is_some, int_le, nat_le, length, position}
use Rattle.base_core.specs.declared.limits.TheConstants.{DOCUMENT_LIMIT, WAITING_LIMIT}
use Rattle.base_core.specs.declared.places.Change.{Change}
use Rattle.lsp_types.specs.declared.messages.Id.{Id}
use Rattle.lsp_types.specs.declared.messages.Call.{Call}
use Rattle.lsp_types.specs.declared.messages.Call.TheVariants.{Initialize, Shutdown, Symbols, Goals}
use Rattle.lsp_types.specs.declared.messages.Note.{Note}
use Rattle.lsp_types.specs.declared.messages.Note.TheVariants as note
use Rattle.lsp_types.specs.declared.messages.Incoming.TheVariants as incoming
use Rattle.lsp_types.specs.declared.messages.DecodeFault.{DecodeFault}
use Rattle.lsp_types.specs.declared.messages.DecodeFault.TheVariants as fault
use Rattle.lsp_types.specs.declared.error_codes.ErrorCode.TheVariants as error
use Rattle.utf16_doc.specs.declared.stops.DocStop.{DocStop}
use Rattle.utf16_doc.specs.declared.stops.DocStop.TheVariants as stop
use Rattle.doc_check.specs.Check.{Views}
use Rattle.doc_check.specs.Document.{all_done}
use Rattle.sched_core.specs.declared.events.Event.TheVariants as event
use Rattle.sched_core.specs.declared.events.Exit.{Exit}
use Rattle.sched_core.specs.declared.phase.Phase.{Phase}
use Rattle.sched_core.specs.declared.phase.Phase.TheVariants.{Fresh, Running, ShutDown}
use Rattle.sched_core.specs.Step.{Step}
use Rattle.sched_core.specs.declared.waiting.Waiting.{Waiting}
use Rattle.sched_core.specs.declared.waiting.Question.TheVariants.{Outline, Goals as GoalsAt}
use Rattle.sched_core.specs.Session.{Session, document_at, place_of, first_unended}
use Rattle.sched_core.specs.Waiting.{is_ready, same_id, cancel_at, wait_for, ask_at, at_open, ask_outline_at, ask_goals_at, request_for, wanted_at}
use Rattle.sched_core.specs.Documents.{at_known, is_too_long, text_behind, did_open, renew_by, change_at}
use Rattle.sched_core.specs.Work.{grant_at, run_first, waits, idle}
use Rattle.sched_core.specs.Messages.{by_phase, request_fresh, request_running, refuse_request, notify_exit, notify_running, refuse_body, hear}
use Rattle.lsp_session.specs.Rules.{Rules, Counted, counting}
use Rattle.lsp_session.specs.Served.{rules}
use Rattle.lsp_session.specs.Causes.{Message, phase_after_call, phase_after, is_exit, exit_in}

-- the exit that one message makes, if any
abbrev pub exit_by : Phase → Message → Option Exit
exit_by phase message = if is_exit message then Some (exit_in phase) else None

-- a step leads to this phase, and to this exit or none
record Leads (step : Step Session) (next : Phase) (last : Option Exit) : Type 0 where
  pub phase : step.state.phase ≡ next
  pub exit : step.exit ≡ last

-- of two steps one is made
leads_if : (test : Bool) (a b : Step Session) (next : Phase) (last : Option Exit) → Leads a next last → Leads b next last → Leads (if test then a else b) next last
leads_if true a b next last h k = h
leads_if false a b next last h k = k

-- what is done to documents
known : (session : Session) (place : Option ℕ) (next : ℕ → Session → Step Session) → ((place : ℕ) → Leads (next place session) session.phase None) → Leads (at_known place next session) session.phase None
known session None next go = record { phase = refl; exit = refl }
known session (Some place) next go = go place

open_leads : (views : Views) (session : Session) (uri : List ℕ) (version : ℤ) (text : List ℕ) → Leads (did_open views uri version text session) session.phase None
open_leads views session uri version text =
    leads_if (is_some (place_of uri session.documents)) _ _ _ _ (record { phase = refl; exit = refl })
    (leads_if (nat_le DOCUMENT_LIMIT (length session.documents)) _ _ _ _ (record { phase = refl; exit = refl })
    (leads_if (is_too_long text) _ _ _ _ (record { phase = refl; exit = refl }) (record { phase = refl; exit = refl })))

renew_leads : (views : Views) (session : Session) (version : ℤ) (text : Result (List ℕ) DocStop) (place : ℕ) → Leads (renew_by views place version text session) session.phase None
renew_leads views session version (Ok text) place = record { phase = refl; exit = refl }
renew_leads views session version (Err stop.RangeReversed) place = record { phase = refl; exit = refl }
renew_leads views session version (Err stop.TooLong) place = record { phase = refl; exit = refl }
renew_leads views session version (Err stop.NoMem) place = record { phase = refl; exit = refl }

change_leads : (views : Views) (session : Session) (version : ℤ) (changes : List Change) (place : ℕ) → Leads (change_at views version changes place session) session.phase None
change_leads views session version changes place =
    leads_if (int_le version (document_at session place).version) _ _ _ _ (record { phase = refl; exit = refl })
    (renew_leads views session version (text_behind changes (document_at session place)) place)

grant_leads : (views : Views) (session : Session) (units place : ℕ) → Leads (grant_at views units place session) session.phase None
grant_leads views session units place = leads_if (all_done (document_at session place).check) _ _ _ _ (record { phase = refl; exit = refl }) (record { phase = refl; exit = refl })

-- requests
fresh_leads : (session : Session) (id : Id) (call : Call) → session.phase ≡ Fresh → Leads (request_fresh id call session) (phase_after_call Fresh call) None
fresh_leads session id (Initialize utf8) e = record { phase = refl; exit = refl }
fresh_leads session id Shutdown e = record { phase = e; exit = refl }
fresh_leads session id (Symbols uri) e = record { phase = e; exit = refl }
fresh_leads session id (Goals uri position after) e = record { phase = e; exit = refl }

-- a request about a document leaves the phase as it is
ask_leads : (views : Views) (session : Session) (place : ℕ) (w : Waiting) → Leads (ask_at views place w session) session.phase None
ask_leads views session place w =
    leads_if (is_ready (document_at session place) w) _ (wait_for w session) _ _ (record { phase = refl; exit = refl })
    (leads_if (nat_le WAITING_LIMIT (length session.waiting)) _ _ _ _ (record { phase = refl; exit = refl }) (record { phase = refl; exit = refl }))

at_open_leads : (session : Session) (id : Id) (place : Option ℕ) (next : ℕ → Session → Step Session) → ((place : ℕ) → Leads (next place session) session.phase None) → Leads (at_open id place next session) session.phase None
at_open_leads session id None next go = record { phase = refl; exit = refl }
at_open_leads session id (Some place) next go = go place

running_by : (step : Step Session) (before : Phase) → before ≡ Running → Leads step before None → Leads step Running None
running_by step before e h = record { phase = h.phase ∙ e; exit = h.exit }

running_leads : (views : Views) (session : Session) (id : Id) (call : Call) → session.phase ≡ Running → Leads (request_running views id call session) (phase_after_call Running call) None
running_leads views session id (Initialize utf8) e = record { phase = e; exit = refl }
running_leads views session id Shutdown e = record { phase = refl; exit = refl }
running_leads views session id (Symbols uri) e =
    running_by _ session.phase e (at_open_leads session id (place_of uri session.documents) (ask_outline_at views id uri) (λ place. ask_leads views session place (request_for id uri Outline)))
running_leads views session id (Goals uri at after) e =
    running_by _ session.phase e (at_open_leads session id (place_of uri session.documents) (ask_goals_at views id uri at after) (λ place. ask_leads views session place (request_for id uri (GoalsAt at (wanted_at (document_at session place) at after)))))

request_leads : (views : Views) (session : Session) (id : Id) (call : Call) (phase : Phase) → session.phase ≡ phase → Leads (by_phase phase (request_fresh id call session) (request_running views id call session) (refuse_request error.InvalidRequest id session)) (phase_after_call phase call) None
request_leads views session id call Fresh e = fresh_leads session id call e
request_leads views session id call Running e = running_leads views session id call e
request_leads views session id call ShutDown e = record { phase = e; exit = refl }

-- notifications
exit_leads : (session : Session) (phase : Phase) (heard : Note) → session.phase ≡ phase → Leads (notify_exit (exit_in phase) heard session) phase (exit_by phase (Ok (incoming.Note heard)))
exit_leads session phase note.Initialized e = record { phase = e; exit = refl }
exit_leads session phase note.Exit e = record { phase = e; exit = refl }
exit_leads session phase (note.Cancel id) e = record { phase = e; exit = refl }
exit_leads session phase (note.DidOpen uri version text) e = record { phase = e; exit = refl }
exit_leads session phase (note.DidChange uri version changes) e = record { phase = e; exit = refl }
exit_leads session phase (note.DidClose uri) e = record { phase = e; exit = refl }
exit_leads session phase (note.Grant uri units) e = record { phase = e; exit = refl }
exit_leads session phase note.Trim e = record { phase = e; exit = refl }
exit_leads session phase note.Other e = record { phase = e; exit = refl }
exit_leads session phase note.BadNote e = record { phase = e; exit = refl }

cancel_leads : (session : Session) (id : Id) (place : Option ℕ) → Leads (cancel_at id place session) session.phase None
cancel_leads session id None = record { phase = refl; exit = refl }
cancel_leads session id (Some place) = record { phase = refl; exit = refl }

note_leads : (views : Views) (session : Session) (heard : Note) → Leads (notify_running views heard session) session.phase (exit_by Running (Ok (incoming.Note heard)))
note_leads views session note.Initialized = record { phase = refl; exit = refl }
note_leads views session note.Exit = record { phase = refl; exit = refl }
note_leads views session (note.Cancel id) = cancel_leads session id (position (λ w. same_id w.id id) session.waiting)
note_leads views session (note.DidOpen uri version text) = open_leads views session uri version text
note_leads views session (note.DidChange uri version changes) = known session (place_of uri session.documents) _ (λ place. change_leads views session version changes place)
note_leads views session (note.DidClose uri) = known session (place_of uri session.documents) _ (λ place. record { phase = refl; exit = refl })
note_leads views session (note.Grant uri units) =
    leads_if session.paced _ _ _ _ (known session (place_of uri session.documents) _ (λ place. grant_leads views session units place)) (record { phase = refl; exit = refl })
note_leads views session note.Trim = record { phase = refl; exit = refl }
note_leads views session note.Other = record { phase = refl; exit = refl }
note_leads views session note.BadNote = record { phase = refl; exit = refl }

notify_leads : (views : Views) (session : Session) (heard : Note) (phase : Phase) → session.phase ≡ phase → Leads (by_phase phase (notify_exit (exit_in Fresh) heard session) (notify_running views heard session) (notify_exit (exit_in ShutDown) heard session)) phase (exit_by phase (Ok (incoming.Note heard)))
notify_leads views session heard Fresh e = exit_leads session Fresh heard e
notify_leads views session heard Running e =
    let h = note_leads views session heard in record { phase = h.phase ∙ e; exit = h.exit }
notify_leads views session heard ShutDown e = exit_leads session ShutDown heard e

body_leads : (session : Session) (why : DecodeFault) → Leads (refuse_body why session) session.phase None
body_leads session fault.NotJson = record { phase = refl; exit = refl }
body_leads session (fault.NotRequest id) = record { phase = refl; exit = refl }
body_leads session (fault.BadParams id initialize) = record { phase = refl; exit = refl }
body_leads session (fault.UnknownMethod id) = record { phase = refl; exit = refl }
body_leads session fault.NoMem = record { phase = refl; exit = refl }

hear_leads : (views : Views) (session : Session) (message : Message) → Leads (hear views message session) (phase_after session.phase message) (exit_by session.phase message)
hear_leads views session (Ok (incoming.Request id call)) = request_leads views session id call session.phase refl
hear_leads views session (Ok (incoming.Note heard)) = notify_leads views session heard session.phase refl
hear_leads views session (Ok incoming.Reply) = record { phase = refl; exit = refl }
hear_leads views session (Err why) = body_leads session why

run_leads : (views : Views) (session : Session) (place : Option ℕ) → Leads (run_first views place session) session.phase None
run_leads views session None = record { phase = refl; exit = refl }
run_leads views session (Some place) = record { phase = refl; exit = refl }

idle_leads : (views : Views) (session : Session) → Leads (idle views session) session.phase None
idle_leads views session =
    leads_if (waits session) _ _ _ _ (record { phase = refl; exit = refl }) (run_leads views session (first_unended session.documents))

-- steps by which messages alone move a phase, and the notification `exit` alone ends the session
pub record MovesPhase {S : Type 0} (rules : Rules S) (phase_of : S → Phase) : Type 0 where
  pub heard_phase : (s : S) (message : Message) → phase_of (rules.step s (event.Message message)).state ≡ phase_after (phase_of s) message
  pub heard_exit : (s : S) (message : Message) → (rules.step s (event.Message message)).exit ≡ exit_by (phase_of s) message
  pub idle_phase : (s : S) → phase_of (rules.step s event.Idle).state ≡ phase_of s
  pub idle_exit : (s : S) → (rules.step s event.Idle).exit ≡ None

abbrev pub phase_in : Counted Session → Phase
phase_in s = s.plain.phase

pub rules_move : (views : Views) → MovesPhase (counting (rules views)) phase_in
rules_move views = record {
  heard_phase = λ s message. (hear_leads views s.plain message).phase;
  heard_exit = λ s message. (hear_leads views s.plain message).exit;
  idle_phase = λ s. (idle_leads views s.plain).phase;
  idle_exit = λ s. (idle_leads views s.plain).exit;
}

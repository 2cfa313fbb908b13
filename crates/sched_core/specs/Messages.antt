-- Messages, by the phase of the session (LSP 3.17, "Server lifecycle").
--
--               Fresh                       Running               ShutDown
-- request       initialize; else -32002     those below           -32600
-- notification  exit; else none             those below           exit; else none
use Rattle.std.specs.Prelude.{ℕ, Bool, true, false, if◌then◌else◌, Result, Ok, Err, List, [], ◌∷◌, codes}
use Rattle.serde_json.specs.Data.{null}
use Rattle.lsp_types.specs.declared.messages.Id.{Id}
use Rattle.lsp_types.specs.declared.messages.Id.TheVariants.{Null}
use Rattle.lsp_types.specs.declared.messages.Call.{Call}
use Rattle.lsp_types.specs.declared.messages.Call.TheVariants.{Initialize, Shutdown, Symbols, Goals}
use Rattle.lsp_types.specs.declared.messages.Note.{Note}
use Rattle.lsp_types.specs.declared.messages.Note.TheVariants as note
use Rattle.lsp_types.specs.declared.messages.Incoming.{Incoming}
use Rattle.lsp_types.specs.declared.messages.Incoming.TheVariants as incoming
use Rattle.lsp_types.specs.declared.messages.DecodeFault.{DecodeFault}
use Rattle.lsp_types.specs.declared.messages.DecodeFault.TheVariants as fault
use Rattle.lsp_types.specs.declared.error_codes.ErrorCode.{ErrorCode}
use Rattle.lsp_types.specs.declared.error_codes.ErrorCode.TheVariants as error
use Rattle.lsp_types.specs.Bodies.{result_body, error_body}
use Rattle.utf16_doc.specs.declared.encoding.Encoding.{Encoding}
use Rattle.utf16_doc.specs.declared.encoding.Encoding.TheVariants.{Utf8, Utf16}
use Rattle.doc_check.specs.Check.{Views}
use Rattle.sched_core.specs.declared.events.Exit.{Exit}
use Rattle.sched_core.specs.declared.events.Exit.TheVariants.{Clean, Early}
use Rattle.sched_core.specs.declared.phase.Phase.{Phase}
use Rattle.sched_core.specs.declared.phase.Phase.TheVariants.{Fresh, Running, ShutDown}
use Rattle.sched_core.specs.Step.{Step, stays, says, leaves, and_then}
use Rattle.sched_core.specs.Session.{Session, set_phase}
use Rattle.sched_core.specs.Bodies.{initialize_result}
use Rattle.sched_core.specs.Documents.{refuse, did_open, did_change, did_close}
use Rattle.sched_core.specs.Waiting.{ask_outline, ask_goals, cancel, cancel_all}
use Rattle.sched_core.specs.Trim.{trim}
use Rattle.sched_core.specs.Work.{grant}

-- one row of the table
abbrev pub by_phase : {A : Type 0} → Phase → A → A → A → A
by_phase Fresh fresh running shut_down = fresh
by_phase Running fresh running shut_down = running
by_phase ShutDown fresh running shut_down = shut_down

-- a request is answered with an error
abbrev pub refuse_request : ErrorCode → Id → Session → Step Session
refuse_request code id session = says (error_body id code ∷ []) session

-- what characters are counted in, by what the client asks for
abbrev pub encoding_of : Bool → Encoding
encoding_of true = Utf8
encoding_of false = Utf16

-- the session runs, with its characters counted so
abbrev pub set_running : Encoding → Session → Session
set_running encoding session = record session { phase = Running; encoding = encoding }

-- the session begins
abbrev pub initialize : Id → Encoding → Session → Step Session
initialize id encoding session = and_then (stays (set_running encoding session)) (says (result_body id (initialize_result encoding) ∷ []))

-- it is shut down: the requests that wait are refused
abbrev pub shut_down : Id → Session → Step Session
shut_down id session = and_then (cancel_all session) (λ s. says (result_body id null ∷ []) (set_phase ShutDown s))

-- a request before `initialize`
abbrev pub request_fresh : Id → Call → Session → Step Session
request_fresh id (Initialize utf8) session = initialize id (encoding_of utf8) session
request_fresh id call session = refuse_request error.ServerNotInitialized id session

-- a request between `initialize` and `shutdown`
abbrev pub request_running : Views → Id → Call → Session → Step Session
request_running views id (Initialize utf8) session = refuse_request error.InvalidRequest id session
request_running views id Shutdown session = shut_down id session
request_running views id (Symbols uri) session = ask_outline views id uri session
request_running views id (Goals uri position after) session = ask_goals views id uri position after session

-- a request
abbrev pub request : Views → Id → Call → Session → Step Session
request views id call session =
    by_phase session.phase (request_fresh id call session) (request_running views id call session) (refuse_request error.InvalidRequest id session)

-- a notification where `exit` alone is heard
abbrev pub notify_exit : Exit → Note → Session → Step Session
notify_exit exit note.Exit session = leaves exit session
notify_exit exit _ session = stays session

-- units are for a paced session alone
abbrev pub notify_grant : Views → List ℕ → ℕ → Session → Step Session
notify_grant views uri units session = if session.paced then grant views uri units session else stays session

-- a notification between `initialize` and `shutdown`
abbrev pub notify_running : Views → Note → Session → Step Session
notify_running views note.Initialized session = stays session
notify_running views note.Exit session = leaves Early session
notify_running views (note.Cancel id) session = cancel id session
notify_running views (note.DidOpen uri version text) session = did_open views uri version text session
notify_running views (note.DidChange uri version changes) session = did_change views uri version changes session
notify_running views (note.DidClose uri) session = did_close uri session
notify_running views (note.Grant uri units) session = notify_grant views uri units session
notify_running views note.Trim session = stays (trim session)
notify_running views note.Other session = stays session
notify_running views note.BadNote session = refuse (codes "invalid params") session

-- a notification
abbrev pub notify : Views → Note → Session → Step Session
notify views heard session =
    by_phase session.phase (notify_exit Early heard session) (notify_running views heard session) (notify_exit Clean heard session)

-- the error of a request that is none of those above
abbrev pub unknown_in : Phase → ErrorCode
unknown_in phase = by_phase phase error.ServerNotInitialized error.MethodNotFound error.InvalidRequest

-- the error of a request whose members are bad: they are looked at where it is heard
abbrev pub bad_params_in : Bool → Phase → ErrorCode
bad_params_in true phase = by_phase phase error.InvalidParams error.InvalidRequest error.InvalidRequest
bad_params_in false phase = by_phase phase error.ServerNotInitialized error.InvalidParams error.InvalidRequest

-- a body that is no message that can be obeyed; want of memory is no fault of a body, so it never comes
abbrev pub refuse_body : DecodeFault → Session → Step Session
refuse_body fault.NotJson session = refuse_request error.ParseError Null session
refuse_body (fault.NotRequest id) session = refuse_request error.InvalidRequest id session
refuse_body (fault.BadParams id initialize) session = refuse_request (bad_params_in initialize session.phase) id session
refuse_body (fault.UnknownMethod id) session = refuse_request (unknown_in session.phase) id session
refuse_body fault.NoMem session = stays session

-- the step of a message
abbrev pub hear : Views → Result Incoming DecodeFault → Session → Step Session
hear views (Ok (incoming.Request id call)) session = request views id call session
hear views (Ok (incoming.Note heard)) session = notify views heard session
hear views (Ok incoming.Reply) session = stays session
hear views (Err fault) session = refuse_body fault session

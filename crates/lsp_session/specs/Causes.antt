-- Why a session ends as it does: by what the polls of its call brought.
use Rattle.std.specs.Prelude.{◌≡◌, ℕ, ◌<◌, ◌≢◌, ◌↔◌, Bool, true, false, Option, None, Some, Result, Ok, List, [], ◌∷◌, ◌++◌, length, map, if◌then◌else◌}
use Rattle.std.specs.List.{flat_map, list_any}
use Rattle.base_core.specs.Link.{Seen, Bytes, Ended, Poll}
use Rattle.rpc_frames.specs.Frames as spec
use Rattle.lsp_types.specs.Decoding.{decoded}
use Rattle.lsp_types.specs.declared.messages.Id.{Id}
use Rattle.lsp_types.specs.declared.messages.Call.{Call}
use Rattle.lsp_types.specs.declared.messages.Call.TheVariants.{Initialize, Shutdown}
use Rattle.lsp_types.specs.declared.messages.Note.TheVariants as note
use Rattle.lsp_types.specs.declared.messages.Incoming.{Incoming}
use Rattle.lsp_types.specs.declared.messages.Incoming.TheVariants as incoming
use Rattle.lsp_types.specs.declared.messages.DecodeFault.{DecodeFault}
use Rattle.sched_core.specs.declared.events.Exit.{Exit}
use Rattle.sched_core.specs.declared.events.Exit.TheVariants.{Clean, Early}
use Rattle.lsp_session.specs.declared.endings.Ending.{Ending}
use Rattle.lsp_session.specs.declared.endings.Ending.TheVariants as ending
use Rattle.lsp_session.specs.Run.{Outcome}
use Rattle.lsp_session.specs.Status.{status_of}
use Rattle.base_core.specs.Sink.{appended}
use Rattle.sched_core.specs.declared.phase.Phase.{Phase}
use Rattle.sched_core.specs.declared.phase.Phase.TheVariants.{Fresh, Running, ShutDown}
use Rattle.doc_check.specs.Check.{Views}
use Rattle.sched_core.specs.Session.{Session}
use Rattle.lsp_session.specs.Rules.{Counted}
use Rattle.lsp_session.specs.Served.{IsServed, session_run}

-- a body as it was decoded
abbrev pub Message : Type 0
Message = Result Incoming DecodeFault

-- the phase behind a request: `initialize` begins a session, and then `shutdown` shuts it down
abbrev pub phase_after_call : Phase → Call → Phase
phase_after_call Fresh (Initialize utf8) = Running
phase_after_call Running Shutdown = ShutDown
phase_after_call phase call = phase

-- the phase behind a message: no other changes it
abbrev pub phase_after : Phase → Message → Phase
phase_after phase (Ok (incoming.Request id call)) = phase_after_call phase call
phase_after phase other = phase

-- the notification `exit`
abbrev pub is_exit : Message → Bool
is_exit (Ok (incoming.Note note.Exit)) = true
is_exit other = false

-- the exit that it makes: a clean one after `shutdown` alone
abbrev pub exit_in : Phase → Exit
exit_in Fresh = Early
exit_in Running = Early
exit_in ShutDown = Clean

-- the exit that the first `exit` among messages makes, by the phase that those before it lead to
abbrev pub exit_of : Phase → List Message → Option Exit
exit_of phase [] = None
exit_of phase (message ∷ messages) = if is_exit message then Some (exit_in phase) else exit_of (phase_after phase message) messages

-- the bytes that a poll brought
abbrev pub bytes_seen : Seen → List ℕ
bytes_seen (Bytes bytes) = bytes
bytes_seen other = []

-- all bytes taken, in order
abbrev pub bytes_taken : List Poll → List ℕ
bytes_taken polls = flat_map (λ one. bytes_seen one.seen) polls

-- the link's end
abbrev pub is_end : Seen → Bool
is_end Ended = true
is_end other = false

-- some poll saw it
abbrev pub saw_end : List Poll → Bool
saw_end polls = list_any (λ one. is_end one.seen) polls

-- the messages of bytes: those of their frames, up to the first fault
abbrev pub messages_of : List ℕ → List Message
messages_of bytes = map decoded (spec.frames bytes).bodies

abbrev pub is_fault : spec.End → Bool
is_fault (spec.Rest pending) = false
is_fault (spec.Fault fault) = true

-- the bytes have a frame fault
abbrev pub has_fault : List ℕ → Bool
has_fault bytes = is_fault (spec.frames bytes).end

-- how the messages of bytes leave a session, if they do
abbrev pub exit_among : List ℕ → Option Exit
exit_among bytes = exit_of Fresh (messages_of bytes)

-- the bytes have neither an exit nor a frame fault
pub record IsQuiet (bytes : List ℕ) : Type 0 where
  pub no_exit : exit_among bytes ≡ None
  pub no_fault : has_fault bytes ≡ false

-- the polls brought this exit
abbrev pub BringsExit : Exit → List Poll → Type 0
BringsExit exit polls = exit_among (bytes_taken polls) ≡ Some exit

-- they saw the link's end
abbrev pub SeesEnd : List Poll → Type 0
SeesEnd polls = saw_end polls ≡ true

-- they brought a frame fault, and no exit before it
pub record BringsFault (polls : List Poll) : Type 0 where
  pub fault : has_fault (bytes_taken polls) ≡ true
  pub no_exit : exit_among (bytes_taken polls) ≡ None

-- they brought as many bytes as a session takes, and in them neither an exit nor a frame fault
pub record ReachesLimit (limit : ℕ) (polls : List Poll) : Type 0 where
  pub all : length (bytes_taken polls) ≡ limit
  pub quiet : IsQuiet (bytes_taken polls)

-- they brought nothing that ends a session: fewer bytes, without exit and fault, and no end
pub record IsUnended (limit : ℕ) (polls : List Poll) : Type 0 where
  pub few : length (bytes_taken polls) < limit
  pub quiet : IsQuiet (bytes_taken polls)
  pub no_end : saw_end polls ≡ false

-- each ending comes exactly where the polls brought its cause; and the link's end is seen before any exit
-- and any frame fault
pub record EndsBy (limit : ℕ) (end : Ending) (polls : List Poll) : Type 0 where
  pub clean : (end ≡ ending.Exit Clean) ↔ BringsExit Clean polls
  pub early : (end ≡ ending.Exit Early) ↔ BringsExit Early polls
  pub failed : (end ≡ ending.LinkFailed) ↔ IsUnended limit polls
  pub ended : (end ≡ ending.LinkEnded) ↔ SeesEnd polls
  pub faulty : (end ≡ ending.FrameFault) ↔ BringsFault polls
  pub full : (end ≡ ending.TakenLimit) ↔ ReachesLimit limit polls
  pub end_first : SeesEnd polls → IsQuiet (bytes_taken polls)

-- so do all runs of a plain session
abbrev pub EndingsHaveCauses : Type 0
EndingsHaveCauses = (views : Views) (paced : Bool) (limit work : ℕ) (polls : List Poll) (whole : Outcome (Counted Session)) → session_run views paced limit work polls ≡ Some whole → EndsBy limit whole.ending polls

-- the same by the exit status
pub record StatusBy (limit : ℕ) (status : ℕ) (polls : List Poll) : Type 0 where
  pub clean : (status ≡ 0) ↔ BringsExit Clean polls
  pub early : (status ≡ 1) ↔ BringsExit Early polls
  pub failed : (status ≡ 3) ↔ IsUnended limit polls
  pub ended : (status ≡ 6) ↔ SeesEnd polls
  pub faulty : (status ≡ 7) ↔ BringsFault polls
  pub full : (status ≡ 10) ↔ ReachesLimit limit polls
  pub end_first : SeesEnd polls → IsQuiet (bytes_taken polls)

abbrev pub StatusesHaveCauses : Type 0
StatusesHaveCauses = (views : Views) (paced : Bool) (limit work : ℕ) (polls : List Poll) (whole : Outcome (Counted Session)) (status : ℕ) → session_run views paced limit work polls ≡ Some whole → status ≡ status_of whole.ending → StatusBy limit status polls

-- messages without `exit`
abbrev pub NoExit : List Message → Type 0
NoExit messages = list_any is_exit messages ≡ false

-- a client leaves by `exit`, its first
pub record Leaves (messages : List Message) : Type 0 where
  pub before : List Message
  pub after : List Message
  pub parts : messages ≡ before ++ Ok (incoming.Note note.Exit) ∷ after
  pub first : NoExit before

-- it asks for the end by `shutdown`, and leaves after it
pub record AsksAndLeaves (messages : List Message) : Type 0 where
  pub id : Id
  pub before : List Message
  pub after : List Message
  pub parts : messages ≡ before ++ Ok (incoming.Request id Shutdown) ∷ after
  pub first : NoExit before
  pub leaves : Leaves after

-- it begins by an `initialize` whose members are good, then asks for the end, and then leaves
pub record IsWholeSession (messages : List Message) : Type 0 where
  pub id : Id
  pub before : List Message
  pub after : List Message
  pub utf8 : Bool
  pub parts : messages ≡ before ++ Ok (incoming.Request id (Initialize utf8)) ∷ after
  pub first : NoExit before
  pub asks : AsksAndLeaves after

-- messages make a clean exit exactly where they are a whole session, and none exactly where there is no `exit`
abbrev pub CleanExits : Type 0
CleanExits = (messages : List Message) → (exit_of Fresh messages ≡ Some Clean) ↔ IsWholeSession messages

abbrev pub NoExits : Type 0
NoExits = (messages : List Message) → (exit_of Fresh messages ≡ None) ↔ NoExit messages

-- where the polls brought a whole session, it ends so
abbrev pub WholeSessionsEndClean : Type 0
WholeSessionsEndClean = (views : Views) (paced : Bool) (limit work : ℕ) (polls : List Poll) (whole : Outcome (Counted Session)) → session_run views paced limit work polls ≡ Some whole → IsWholeSession (messages_of (bytes_taken polls)) → whole.ending ≡ ending.Exit Clean

-- the same by the exit status
abbrev pub TakenSessionsEndClean : Type 0
TakenSessionsEndClean = (views : Views) (paced : Bool) (limit work : ℕ) (polls : List Poll) (whole : Outcome (Counted Session)) (status : ℕ) → session_run views paced limit work polls ≡ Some whole → status ≡ status_of whole.ending → IsWholeSession (messages_of (bytes_taken polls)) → status ≡ 0

-- a link gives these bytes and then its end: the polls took the first of them, and all before they saw the end
pub record Gives (bytes : List ℕ) (polls : List Poll) : Type 0 where
  pub left : List ℕ
  pub parts : bytes ≡ bytes_taken polls ++ left
  pub all_first : SeesEnd polls → left ≡ []

-- these bytes are fewer than a session takes, have no frame fault, and their messages are a whole session
pub record HoldsSession (limit : ℕ) (bytes : List ℕ) : Type 0 where
  pub few : length bytes < limit
  pub no_fault : has_fault bytes ≡ false
  pub session : IsWholeSession (messages_of bytes)

-- where a link gives a whole session and does not fail, the session is served to its clean exit
abbrev pub GivenSessionsEndClean : Type 0
GivenSessionsEndClean = (views : Views) (paced : Bool) (limit work : ℕ) (polls : List Poll) (whole : Outcome (Counted Session)) (status : ℕ) (bytes : List ℕ) → session_run views paced limit work polls ≡ Some whole → status ≡ status_of whole.ending → status ≢ 3 → Gives bytes polls → HoldsSession limit bytes → status ≡ 0

-- the polls of a call decide its status: each comes exactly where they brought its cause, and a whole session ends with 0
pub record HasCauses (limit : ℕ) (status : ℕ) (old new : Option (List Poll)) : Type 0 where
  pub polls : List Poll
  pub grown : new ≡ appended old polls
  pub causes : StatusBy limit status polls
  pub taken : IsWholeSession (messages_of (bytes_taken polls)) → status ≡ 0
  pub given : (bytes : List ℕ) → status ≢ 3 → Gives bytes polls → HoldsSession limit bytes → status ≡ 0

-- so do the polls of a session over a link and a sink
abbrev pub ServedSessionsHaveCauses : Type 0
ServedSessionsHaveCauses = (views : Views) (paced : Bool) (limit status before after : ℕ) (told now : Option (List ℕ)) (old new : Option (List Poll)) → IsServed views paced limit status before after told now old new → HasCauses limit status old new

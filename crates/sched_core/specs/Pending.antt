-- Why a request waits: an open document is yet to be checked as far as it asks for. So none waits where all are checked.
use Rattle.std.specs.Prelude.{◌≡◌, ◌≤◌, Bool, true, false, List, [], All, Contains}
use Rattle.doc_check.specs.Check.{count, Views}
use Rattle.sched_core.specs.declared.events.Event.{Event}
use Rattle.sched_core.specs.declared.phase.Phase.{Phase}
use Rattle.sched_core.specs.declared.phase.Phase.TheVariants.{Fresh, Running, ShutDown}
use Rattle.sched_core.specs.declared.waiting.Question.{Question}
use Rattle.sched_core.specs.declared.waiting.Question.TheVariants.{Outline, Goals}
use Rattle.sched_core.specs.declared.waiting.Waiting.{Waiting}
use Rattle.sched_core.specs.Step.{Step}
use Rattle.sched_core.specs.Session.{Document, Session, fresh}
use Rattle.sched_core.specs.Waiting.{is_about, is_ready}
use Rattle.sched_core.specs.Work.{waits}
use Rattle.sched_core.specs.Plain.{step}

-- a document has as many sentences as a question asks for
abbrev pub HasEnough : Document → Question → Type 0
HasEnough document Outline = Unit {0}
HasEnough document (Goals at number) = number ≤ count document.check.text

-- a request waits for one of these documents
pub record WaitsFor (documents : List Document) (w : Waiting) : Type 0 where
  pub document : Document
  pub listed : Contains documents document
  pub about : is_about document.uri w ≡ true
  pub unready : is_ready document w ≡ false
  pub enough : HasEnough document w.question

-- each request that waits does so for an open document; none waits before `initialize` and after `shutdown`
abbrev pub WaitInPhase : Phase → List Document → List Waiting → Type 0
WaitInPhase Fresh documents waiting = waiting ≡ []
WaitInPhase Running documents waiting = All (WaitsFor documents) waiting
WaitInPhase ShutDown documents waiting = waiting ≡ []

abbrev pub AllWaitForOpen : Session → Type 0
AllWaitForOpen session = WaitInPhase session.phase session.documents session.waiting

-- a step leaves it so, and a session paced or not
pub record KeepsWaiting (session : Session) (made : Step Session) : Type 0 where
  pub paced : made.state.paced ≡ session.paced
  pub waits : AllWaitForOpen made.state

-- so it is from the beginning on
abbrev pub AllWaitAtStart : Type 0
AllWaitAtStart = (paced : Bool) → AllWaitForOpen (fresh paced)

abbrev pub StepsKeepWaiting : Type 0
StepsKeepWaiting = (views : Views) (session : Session) (event : Event) → AllWaitForOpen session → KeepsWaiting session (step views session event)

-- where nothing is to be done until something comes, no request waits, in a session that isn't paced
abbrev pub NoneWaitsInVain : Type 0
NoneWaitsInVain = (session : Session) → AllWaitForOpen session → session.paced ≡ false → waits session ≡ true → session.waiting ≡ []

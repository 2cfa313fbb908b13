-- The plain session: what it says of a text is what checking the text from its beginning says.
use Rattle.std.specs.Prelude.{◌≡◌, ◌+◌, ◌<◌, ◌≤◌, false}
use Rattle.base_core.specs.declared.limits.TheConstants.{TEXT_LIMIT}
use Rattle.doc_check.specs.Check.{Views}
use Rattle.sched_core.specs.declared.events.Event.{Event}
use Rattle.sched_core.specs.declared.events.Event.TheVariants as event
use Rattle.sched_core.specs.Step.{Step}
use Rattle.sched_core.specs.Session.{Session, idles, AreShort}
use Rattle.sched_core.specs.Work.{waits, idle}
use Rattle.sched_core.specs.Messages.{hear}

-- one step
abbrev pub step : Views → Session → Event → Step Session
step views session (event.Message message) = hear views message session
step views session event.Idle = idle views session

-- how many steps without a message are left behind an event: a message adds no more than a text has bytes, and
-- each such step takes one away
abbrev pub IdlesLeft : Event → Session → Session → Type 0
IdlesLeft (event.Message message) old new = idles new ≤ idles old + TEXT_LIMIT
IdlesLeft event.Idle old new = waits old ≡ false → idles new < idles old

-- the law of these steps, where each text is within the limit
abbrev pub StepsEnd : Type 0
StepsEnd = (views : Views) (session : Session) (event : Event) → AreShort session.documents → IdlesLeft event session (step views session event).state

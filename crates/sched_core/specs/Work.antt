-- Sentences of documents are finished: where units are granted, or while nothing comes.
use Rattle.std.specs.Prelude.{ℕ, nat_lt, ◌||◌, Bool, true, false, not, if◌then◌else◌, Option, None, Some, is_some, List, [], ◌∷◌}
use Rattle.doc_check.specs.Check.{Views}
use Rattle.doc_check.specs.Document.{done, all_done}
use Rattle.sched_core.specs.declared.phase.Phase.{Phase}
use Rattle.sched_core.specs.declared.phase.Phase.TheVariants.{Fresh, Running, ShutDown}
use Rattle.sched_core.specs.Step.{Step, stays, says, works, and_then}
use Rattle.sched_core.specs.Session.{Document, Session, Held, document_at, place_of, first_unended}
use Rattle.sched_core.specs.Done.{Came, came, spend, run_next}
use Rattle.sched_core.specs.Waiting.{answer_ready}
use Rattle.sched_core.specs.Documents.{end_pair, progress_from, at_known}

-- a document with these units
abbrev pub spent_on : Views → ℕ → Document → Held → Came
spent_on views units document held = spend (views.cost document.check.text) document.check held units

-- one that takes what is held, and then runs a sentence, if one is left
abbrev pub ran_on : Views → Document → Held → Came
ran_on views document held = run_next (views.cost document.check.text) document.check held

-- what is written where a document that was not ended came so far
abbrev pub progress_since : Views → ℕ → Document → List (List ℕ)
progress_since views before document =
    if all_done document.check then end_pair views document else (if nat_lt before (done document.check) then progress_from document ∷ [] else [])

-- the end pair of a document that is ended, and nothing else
abbrev pub pair_at_end : Views → Document → List (List ℕ)
pair_at_end views document = if all_done document.check then end_pair views document else []

-- units for the document at a place, which is not ended
abbrev pub granted : Views → ℕ → ℕ → Session → Step Session
granted views units place session =
    let old = document_at session place in
    let spent = spent_on views units old session.held in
    and_then (works spent.work (came place spent session)) (λ s. says (progress_since views (done old.check) (document_at s place)) s)

-- nothing is done for one that is ended; else the requests about it that are ready are answered then
abbrev pub grant_at : Views → ℕ → ℕ → Session → Step Session
grant_at views units place session =
    if all_done (document_at session place).check then stays session else and_then (granted views units place session) (answer_ready views place)

abbrev pub grant : Views → List ℕ → ℕ → Session → Step Session
grant views uri units session = at_known (place_of uri session.documents) (grant_at views units) session

-- after `shutdown` no sentence is run
abbrev pub is_shut_down : Phase → Bool
is_shut_down Fresh = false
is_shut_down Running = false
is_shut_down ShutDown = true

-- every open text is ended, or none is checked any more
abbrev pub all_ended : Session → Bool
all_ended session = is_shut_down session.phase || not (is_some (first_unended session.documents))

-- nothing is to be done until something comes
abbrev pub waits : Session → Bool
waits session = session.paced || all_ended session

-- the document at a place, which is not ended, takes the sentences that are held; then the next one is finished
abbrev pub run_on : Views → ℕ → Session → Step Session
run_on views place session =
    let ran = ran_on views (document_at session place) session.held in
    and_then (works ran.work (came place ran session)) (λ s. says (pair_at_end views (document_at s place)) s)

-- .. and the requests about it that are ready are answered
abbrev pub run_at : Views → ℕ → Session → Step Session
run_at views place session = and_then (run_on views place session) (answer_ready views place)

-- that of the document at this place, if there is one
abbrev pub run_first : Views → Option ℕ → Session → Step Session
run_first views None session = stays session
run_first views (Some place) session = run_at views place session

-- the step where nothing came
abbrev pub idle : Views → Session → Step Session
idle views session = if waits session then stays session else run_first views (first_unended session.documents) session

-- Requests about a document: each is answered at once where enough of its sentences are finished, and else waits until they are.
use Rattle.std.specs.Prelude.{ℕ, ◌-◌, nat_le, Bool, true, false, not, ◌&&◌, if◌then◌else◌, Option, None, Some, List, [], ◌∷◌, ◌++◌, length, map, filter, position, remove}
use Rattle.std.specs.Ordering.{int_eq}
use Rattle.std.specs.Str.{bytes_eq}
use Rattle.serde_json.specs.Data.{Data}
use Rattle.base_core.specs.declared.limits.TheConstants.{WAITING_LIMIT}
use Rattle.base_core.specs.declared.places.Position.{Position}
use Rattle.utf16_doc.specs.Positions.{offset_at}
use Rattle.sentence_split.specs.Sentences.{sentences}
use Rattle.lsp_types.specs.declared.messages.Id.{Id}
use Rattle.lsp_types.specs.declared.messages.Id.TheVariants.{Number, Word, Null}
use Rattle.lsp_types.specs.declared.error_codes.ErrorCode.{ErrorCode}
use Rattle.lsp_types.specs.declared.error_codes.ErrorCode.TheVariants.{InvalidParams, RequestCancelled, ContentModified, TooManyWaiting}
use Rattle.lsp_types.specs.Bodies.{result_body, error_body}
use Rattle.doc_check.specs.Check.{Views, started}
use Rattle.doc_check.specs.Document.{done, all_done}
use Rattle.goals_query.specs.Goals.{answer_data}
use Rattle.goals_query.specs.Symbols.{symbols_data}
use Rattle.sched_core.specs.declared.waiting.Choice.{Choice}
use Rattle.sched_core.specs.declared.waiting.Choice.TheVariants.{Everyone, About}
use Rattle.sched_core.specs.declared.waiting.Question.{Question}
use Rattle.sched_core.specs.declared.waiting.Question.TheVariants.{Outline, Goals}
use Rattle.sched_core.specs.declared.waiting.Waiting.{Waiting}
use Rattle.sched_core.specs.Step.{Step, stays, says}
use Rattle.sched_core.specs.Session.{Document, Session, document_at, place_of, positions, set_waiting}

-- a request of this id, about the document of this name
abbrev pub request_for : Id → List ℕ → Question → Waiting
request_for id uri question = record { id = id; uri = uri; question = question }

-- what is told of a document: what it declares, or the goals behind so many sentences
abbrev pub told_of : Views → Document → Question → Data
told_of views d Outline = symbols_data (positions d) (sentences 0 0 d.check.text) (views.outline d.check.text)
told_of views d (Goals at number) = answer_data (views.goals d.check.text number) at d.uri d.version

-- the answer to a request about this document
abbrev pub answer : Views → Document → Waiting → List ℕ
answer views d w = result_body w.id (told_of views d w.question)

-- all sentences are to be finished for what it declares, and so many for the goals behind them
abbrev pub can_tell : Document → Question → Bool
can_tell d Outline = all_done d.check
can_tell d (Goals at number) = nat_le number (done d.check)

abbrev pub is_ready : Document → Waiting → Bool
is_ready d w = can_tell d w.question

-- it is about the document of this name
abbrev pub is_about : List ℕ → Waiting → Bool
is_about uri w = bytes_eq w.uri uri

-- of so many sentences that start at or before a position, all or all but the last
abbrev pub wanted_of : ℕ → Bool → ℕ
wanted_of number true = number
wanted_of number false = number - 1

-- behind how many sentences the goals at a position are
abbrev pub wanted_at : Document → Position → Bool → ℕ
wanted_at d at after = wanted_of (started d.check.text (offset_at d.encoding d.check.text at)) after

-- these requests are answered so in the order of their arrival, and the others go on waiting
abbrev pub answer_those : (Waiting → Bool) → (Waiting → List ℕ) → Session → Step Session
answer_those which body session =
    says (map body (filter which session.waiting)) (set_waiting (filter (λ w. not (which w)) session.waiting) session)

abbrev pub is_ready_for : Document → Waiting → Bool
is_ready_for d w = is_about d.uri w && is_ready d w

-- the requests about the document at a place that are ready are answered
abbrev pub answer_ready : Views → ℕ → Session → Step Session
answer_ready views place session =
    answer_those (is_ready_for (document_at session place)) (answer views (document_at session place)) session

-- some requests are refused with an error
abbrev pub refuse_those : (Waiting → Bool) → ErrorCode → Session → Step Session
refuse_those which code session = answer_those which (λ w. error_body w.id code) session

-- the requests about the document of a name are refused, since its text is another now
abbrev pub outdate : List ℕ → Session → Step Session
outdate uri session = refuse_those (is_about uri) ContentModified session

-- all requests are refused
abbrev pub cancel_all : Session → Step Session
cancel_all session = refuse_those (λ w. true) RequestCancelled session

-- two ids are the same
abbrev pub same_id : Id → Id → Bool
same_id (Number n) (Number m) = int_eq n m
same_id (Word u) (Word v) = bytes_eq u v
same_id Null Null = true
same_id _ _ = false

-- the request at a place in the order of arrival is refused
abbrev pub cancel_at : Id → Option ℕ → Session → Step Session
cancel_at id None session = stays session
cancel_at id (Some place) session = says (error_body id RequestCancelled ∷ []) (set_waiting (remove session.waiting place) session)

-- the earliest request of this id is refused
abbrev pub cancel : Id → Session → Step Session
cancel id session = cancel_at id (position (λ w. same_id w.id id) session.waiting) session

-- a request about the document at a place that isn't ready waits, where no more than 256 then do
abbrev pub wait_for : Waiting → Session → Step Session
wait_for w session =
    if nat_le WAITING_LIMIT (length session.waiting) then says (error_body w.id TooManyWaiting ∷ []) session else
    stays (set_waiting (session.waiting ++ w ∷ []) session)

-- a request about the document at a place
abbrev pub ask_at : Views → ℕ → Waiting → Session → Step Session
ask_at views place w session =
    if is_ready (document_at session place) w then says (answer views (document_at session place) w ∷ []) session else wait_for w session

-- refused where no document of this name is open; else by its place
abbrev pub at_open : Id → Option ℕ → (ℕ → Session → Step Session) → Session → Step Session
at_open id None next session = says (error_body id InvalidParams ∷ []) session
at_open id (Some place) next session = next place session

-- what a document declares
abbrev pub ask_outline_at : Views → Id → List ℕ → ℕ → Session → Step Session
ask_outline_at views id uri place session =
    ask_at views place (request_for id uri Outline) session

abbrev pub ask_outline : Views → Id → List ℕ → Session → Step Session
ask_outline views id uri session = at_open id (place_of uri session.documents) (ask_outline_at views id uri) session

-- the goals at a position
abbrev pub ask_goals_at : Views → Id → List ℕ → Position → Bool → ℕ → Session → Step Session
ask_goals_at views id uri at after place session =
    ask_at views place (request_for id uri (Goals at (wanted_at (document_at session place) at after))) session

abbrev pub ask_goals : Views → Id → List ℕ → Position → Bool → Session → Step Session
ask_goals views id uri at after session = at_open id (place_of uri session.documents) (ask_goals_at views id uri at after) session

-- which requests are meant
abbrev pub chooses : Choice → Waiting → Bool
chooses Everyone w = true
chooses (About uri) w = is_about uri w

-- How many steps without a message are left behind a step.
use Rattle.std.proofs.Common.{◌≡◌, ℕ, ◌+◌, ◌<◌, ◌≤◌, ◌||◌, Bool, not, true, false, nat_le, int_le, None, Some, is_some, Option, Ok, Err, Result, List, [], ◌∷◌, ◌++◌, length, length-append, length-set, if◌then◌else◌, arith, sym, refl, ap, ◌∙◌}
use Rattle.std.specs.List.{sum_by, remove, slice_set}
use Rattle.std.specs.Result.{IfOk}
use Rattle.std.proofs.lemmas.Bool.{ltb-false, leb-false}
use Rattle.std.proofs.lemmas.List.Sums.{sum_by_push, sum_by-set, sum_by-remove}
use Rattle.std.proofs.lemmas.List.Elements.{All-get_or}
use Rattle.std.proofs.lemmas.List.Quantifiers.{position-Some}
use Rattle.std.specs.Str.{bytes_eq}
use Rattle.std.specs.Prelude.{codes, position}
use Rattle.base_core.specs.declared.limits.TheConstants.{TEXT_LIMIT, DOCUMENT_LIMIT, WAITING_LIMIT}
use Rattle.base_core.specs.declared.places.Change.{Change}
use Rattle.utf16_doc.specs.declared.encoding.Encoding.{Encoding}
use Rattle.utf16_doc.specs.declared.stops.DocStop.{DocStop}
use Rattle.utf16_doc.specs.declared.stops.DocStop.TheVariants.{RangeReversed, TooLong, NoMem}
use Rattle.utf16_doc.specs.Edits.{Edited, changes_in}
use Rattle.utf16_doc.proofs.Short.{changes_short}
use Rattle.lsp_types.specs.declared.messages.Id.{Id}
use Rattle.lsp_types.specs.declared.messages.Call.{Call}
use Rattle.lsp_types.specs.declared.messages.Call.TheVariants.{Initialize, Shutdown, Symbols, Goals}
use Rattle.lsp_types.specs.declared.messages.Note.{Note}
use Rattle.lsp_types.specs.declared.messages.Note.TheVariants as note
use Rattle.lsp_types.specs.declared.messages.Incoming.{Incoming}
use Rattle.lsp_types.specs.declared.messages.Incoming.TheVariants as incoming
use Rattle.lsp_types.specs.declared.messages.DecodeFault.{DecodeFault}
use Rattle.lsp_types.specs.declared.messages.DecodeFault.TheVariants as fault
use Rattle.doc_check.specs.Check.{count, Views}
use Rattle.doc_check.specs.Document.{done, all_done}
use Rattle.lsp_types.specs.declared.error_codes.ErrorCode.TheVariants as error
use Rattle.lsp_types.specs.declared.error_codes.ErrorCode.TheVariants.{TooManyWaiting}
use Rattle.lsp_types.specs.Bodies.{error_body}
use Rattle.sched_core.specs.declared.events.Exit.{Exit}
use Rattle.sched_core.specs.declared.events.Exit.TheVariants.{Early, Clean}
use Rattle.sched_core.specs.declared.events.Event.{Event}
use Rattle.sched_core.specs.declared.events.Event.TheVariants as event
use Rattle.sched_core.specs.declared.phase.Phase.{Phase}
use Rattle.sched_core.specs.declared.phase.Phase.TheVariants.{Fresh, Running, ShutDown}
use Rattle.sched_core.specs.Step.{Step, stays, says, and_then}
use Rattle.sched_core.specs.Session.{Document, Session, document_in, document_at, place_of, first_unended, unfinished, idles, AreShort, unchecked, set_documents, set_waiting, update}
use Rattle.sched_core.specs.declared.waiting.Waiting.{Waiting}
use Rattle.sched_core.specs.declared.waiting.Question.TheVariants.{Outline, Goals as GoalsAt}
use Rattle.sched_core.specs.Waiting.{outdate, answer, answer_ready, is_ready, same_id, cancel, cancel_at, wait_for, ask_at, at_open, ask_outline_at, ask_goals_at, request_for, wanted_at}
use Rattle.sched_core.specs.Trim.{trim}
use Rattle.sched_core.specs.Documents.{refuse, at_known, is_too_long, edited_text, text_behind, add, did_open, begin_again, renew, renewed, renew_by, change_at, close_at}
use Rattle.sched_core.specs.Done.{Came, with_check, take_kept, came}
use Rattle.sched_core.specs.Work.{spent_on, ran_on, granted, grant_at, run_at, run_first, is_shut_down, waits}
use Rattle.sched_core.specs.Messages.{by_phase, request_fresh, request_running, refuse_request, notify_exit, notify_running, refuse_body, hear}
use Rattle.sched_core.specs.Plain.{step, IdlesLeft}
use Rattle.sched_core.proofs.Kept.{IsShort}
use Rattle.sched_core.proofs.Few.{few}
use Rattle.sched_core.proofs.Taken.{taken_text, taken_done}
use Rattle.sched_core.proofs.Units.{spend_more, spend_text, run_more, run_text}

-- a text has no more sentences than bytes
few_of : (document : Document) → unfinished document ≤ length document.check.text
few_of document = omega (arith, few document.check.text 0 0)

-- no more than a text's bytes are added
Adds : Session → Step Session → Type 0
Adds session step = idles step.state ≤ idles session + TEXT_LIMIT

adds : (session : Session) (made : Step Session) → sum_by unfinished made.state.documents ≤ sum_by unfinished session.documents + TEXT_LIMIT → Adds session made
unfolding Adds
adds session made h = h

added : (session : Session) (made : Step Session) → Adds session made → idles made.state ≤ idles session + TEXT_LIMIT
unfolding Adds
added session made h = h

none_added : (session : Session) (made : Step Session) → made.state.documents ≡ session.documents → Adds session made
none_added session made same = adds session made (omega (arith, ap (sum_by unfinished) same))

-- by a test
if_adds : (session : Session) (b : Bool) (x y : Step Session) → Adds session x → (b ≡ false → Adds session y) → Adds session (if b then x else y)
if_adds session true x y h k = h
if_adds session false x y h k = k refl

pushed : (documents : List Document) (document : Document) → length document.check.text ≤ TEXT_LIMIT → sum_by unfinished (documents ++ document ∷ []) ≤ sum_by unfinished documents + TEXT_LIMIT
pushed documents document h = omega (arith, sum_by_push unfinished documents document, few_of document, h)

set_at : (documents : List Document) (place : ℕ) (document : Document) → place < length documents → length document.check.text ≤ TEXT_LIMIT → sum_by unfinished (slice_set documents place document) ≤ sum_by unfinished documents + TEXT_LIMIT
set_at documents place document within h =
    omega (arith, sum_by-set unfinished documents place document (document_in [] 0) within, few_of document, h)

-- a document that takes what is held, or runs, has no more to do
came_at : (session : Session) (place : ℕ) (c : Came) → place < length session.documents → c.check.text ≡ (document_at session place).check.text → done (document_at session place).check ≤ done c.check → idles (came place c session) ≤ idles session
came_at session place c within text more =
    omega (arith, sum_by-set unfinished session.documents place (with_check c.check (document_at session place)) (document_in [] 0) within, ap count text, more)

taken_at : (session : Session) (place : ℕ) → place < length session.documents → idles (came place (take_kept (document_at session place).check session.held) session) ≤ idles session
taken_at session place within =
    came_at session place (take_kept (document_at session place).check session.held) within (taken_text (document_at session place).check session.held.rows) (taken_done (document_at session place).check session.held.rows)

removed_at : (documents : List Document) (place : ℕ) → place < length documents → sum_by unfinished (remove documents place) ≤ sum_by unfinished documents + TEXT_LIMIT
removed_at documents place within = omega (arith, sum_by-remove unfinished documents place (document_in [] 0) within)

fits : (text : List ℕ) → is_too_long text ≡ false → length text ≤ TEXT_LIMIT
fits text h = ltb-false TEXT_LIMIT (length text) h

pub found_within : (uri : List ℕ) (documents : List Document) (place : ℕ) → place_of uri documents ≡ Some place → place < length documents
found_within uri documents place e = (position-Some (λ d. bytes_eq d.uri uri) documents place (document_in [] 0) e).0

known_adds : (session : Session) (uri : List ℕ) (found : Option ℕ) (next : ℕ → Session → Step Session) → place_of uri session.documents ≡ found → ((place : ℕ) → place < length session.documents → Adds session (next place session)) → Adds session (at_known found next session)
known_adds session uri None next e h = none_added session (at_known None next session) refl
known_adds session uri (Some place) next e h = h place (found_within uri session.documents place e)

-- a document more takes what is held
abbrev add_state : Session → Document → Session
add_state session document =
    let more : Session = set_documents (session.documents ++ document ∷ []) session in
    came (length session.documents) (take_kept (document_at more (length session.documents)).check more.held) more

opened_at : (session : Session) (document : Document) → length document.check.text ≤ TEXT_LIMIT → idles (add_state session document) ≤ idles session + TEXT_LIMIT
opened_at session document h =
    let more : Session = set_documents (session.documents ++ document ∷ []) session in
    omega (arith, taken_at more (length session.documents) (omega (arith, length-append session.documents (document ∷ []))), pushed session.documents document h)

open_adds : (views : Views) (uri : List ℕ) (version : _) (text : List ℕ) (session : Session) → Adds session (did_open views uri version text session)
open_adds views uri version text session =
    let new : Step Session = add views (unchecked uri version session.encoding text) session in
    let short : Step Session = if is_too_long text then refuse (codes "text too long") session else new in
    let room : Step Session = if nat_le DOCUMENT_LIMIT (length session.documents) then refuse (codes "too many documents") session else short in
    if_adds session (is_some (place_of uri session.documents)) (refuse (codes "document already open") session) room (none_added session (refuse (codes "document already open") session) refl)
    (λ e. if_adds session (nat_le DOCUMENT_LIMIT (length session.documents)) (refuse (codes "too many documents") session) short (none_added session (refuse (codes "too many documents") session) refl)
    (λ f. if_adds session (is_too_long text) (refuse (codes "text too long") session) new (none_added session (refuse (codes "text too long") session) refl)
    (λ g. adds session new (opened_at session (unchecked uri version session.encoding text) (fits text g)))))

begun_adds : (views : Views) (version : _) (session : Session) (place : ℕ) (text : List ℕ) → place < length session.documents → length text ≤ TEXT_LIMIT → Adds session (begin_again views place version text session)
begun_adds views version session place text within short =
    let new : Session = update place (renewed version text) session in
    adds session (begin_again views place version text session)
    (omega (arith, taken_at new place (omega (arith, within, length-set session.documents place (renewed version text (document_at session place)))), set_at session.documents place (renewed version text (document_at session place)) within short))

renew_adds : (views : Views) (version : _) (session : Session) (place : ℕ) (text : Result (List ℕ) DocStop) → place < length session.documents → IfOk text (λ t. length t ≤ TEXT_LIMIT) → Adds session (renew_by views place version text session)
renew_adds views version session place (Ok text) within short =
    let mid : Session = (outdate (document_at session place).uri session).state in
    adds session (renew views place version text session)
    (added mid (begin_again views place version text mid) (begun_adds views version mid place text within short))
renew_adds views version session place (Err RangeReversed) within short = none_added session (refuse (codes "range reversed") session) refl
renew_adds views version session place (Err TooLong) within short = none_added session (refuse (codes "text too long") session) refl
renew_adds views version session place (Err NoMem) within short = none_added session (stays session) refl

edited_short : (encoding : Encoding) (text : List ℕ) (changes : List Change) (outcome : Result Edited DocStop) → length text ≤ TEXT_LIMIT → changes_in encoding text changes ≡ outcome → IfOk (edited_text outcome) (λ t. length t ≤ TEXT_LIMIT)
edited_short encoding text changes (Ok edited) short e = changes_short encoding text changes edited short e
edited_short encoding text changes (Err stop) short e = tt

change_adds : (views : Views) (version : _) (changes : List Change) (session : Session) → AreShort session.documents → (place : ℕ) → place < length session.documents → Adds session (change_at views version changes place session)
change_adds views version changes session short place within =
    let old : Document = document_at session place in
    let new : Step Session = renew_by views place version (text_behind changes old) session in
    if_adds session (int_le version old.version) (refuse (codes "version not greater") session) new (none_added session (refuse (codes "version not greater") session) refl)
    (λ e. renew_adds views version session place (text_behind changes old) within
    (edited_short old.encoding old.check.text changes (changes_in old.encoding old.check.text changes) (All-get_or IsShort session.documents place (document_in [] 0) within short) refl))

spent_at : (views : Views) (units : ℕ) (session : Session) (place : ℕ) → place < length session.documents → idles (came place (spent_on views units (document_at session place) session.held) session) ≤ idles session
spent_at views units session place within =
    let old : Document = document_at session place in
    came_at session place (spent_on views units old session.held) within
    (spend_text (views.cost old.check.text) old.check session.held units) (spend_more (views.cost old.check.text) old.check session.held units)

grant_adds : (views : Views) (units : ℕ) (session : Session) (place : ℕ) → place < length session.documents → Adds session (grant_at views units place session)
grant_adds views units session place within =
    if_adds session (all_done (document_at session place).check) _ _ (none_added session (stays session) refl)
    (λ e. adds session (and_then (granted views units place session) (answer_ready views place)) (omega (arith, spent_at views units session place within)))

-- a request leaves the documents as they are
cancel_same : (id : Id) (found : Option ℕ) (session : Session) → (cancel_at id found session).state.documents ≡ session.documents
cancel_same id None session = refl
cancel_same id (Some place) session = refl

if_same : (b : Bool) (x y : Step Session) (documents : List Document) → x.state.documents ≡ documents → y.state.documents ≡ documents → (if b then x else y).state.documents ≡ documents
if_same true x y documents h k = h
if_same false x y documents h k = k

ask_same : (views : Views) (place : ℕ) (w : Waiting) (session : Session) → (ask_at views place w session).state.documents ≡ session.documents
ask_same views place w session =
    if_same (is_ready (document_at session place) w) (says (answer views (document_at session place) w ∷ []) session) (wait_for w session) session.documents refl
    (if_same (nat_le WAITING_LIMIT (length session.waiting)) (says (error_body w.id TooManyWaiting ∷ []) session) (stays (set_waiting (session.waiting ++ w ∷ []) session)) session.documents refl refl)

open_same : (id : Id) (found : Option ℕ) (next : ℕ → Session → Step Session) (session : Session) → ((place : ℕ) → (next place session).state.documents ≡ session.documents) → (at_open id found next session).state.documents ≡ session.documents
open_same id None next session h = refl
open_same id (Some place) next session h = h place

note_adds : (views : Views) (heard : Note) (session : Session) → AreShort session.documents → Adds session (notify_running views heard session)
note_adds views note.Initialized session short = none_added session (stays session) refl
note_adds views note.Exit session short = none_added session (notify_running views note.Exit session) refl
note_adds views (note.Cancel id) session short = none_added session (cancel id session) (cancel_same id (position (λ w. same_id w.id id) session.waiting) session)
note_adds views (note.DidOpen uri version text) session short = open_adds views uri version text session
note_adds views (note.DidChange uri version changes) session short = known_adds session uri (place_of uri session.documents) (change_at views version changes) refl (change_adds views version changes session short)
note_adds views (note.DidClose uri) session short = known_adds session uri (place_of uri session.documents) close_at refl (λ place within. adds session (close_at place session) (removed_at session.documents place within))
note_adds views (note.Grant uri units) session short = by session.paced where
  by : (b : Bool) → Adds session (if b then at_known (place_of uri session.documents) (grant_at views units) session else stays session)
  by true = known_adds session uri (place_of uri session.documents) (grant_at views units) refl (grant_adds views units session)
  by false = none_added session (stays session) refl
note_adds views note.Trim session short = none_added session (stays (trim session)) refl
note_adds views note.Other session short = none_added session (stays session) refl
note_adds views note.BadNote session short = none_added session (refuse (codes "invalid params") session) refl

exit_same : (exit : Exit) (heard : Note) (session : Session) → (notify_exit exit heard session).state.documents ≡ session.documents
exit_same exit note.Initialized session = refl
exit_same exit note.Exit session = refl
exit_same exit (note.Cancel id) session = refl
exit_same exit (note.DidOpen uri version text) session = refl
exit_same exit (note.DidChange uri version changes) session = refl
exit_same exit (note.DidClose uri) session = refl
exit_same exit (note.Grant uri units) session = refl
exit_same exit note.Trim session = refl
exit_same exit note.Other session = refl
exit_same exit note.BadNote session = refl

by_phase_adds : (session : Session) (phase : Phase) (x y z : Step Session) → Adds session x → Adds session y → Adds session z → Adds session (by_phase phase x y z)
by_phase_adds session Fresh x y z h k l = h
by_phase_adds session Running x y z h k l = k
by_phase_adds session ShutDown x y z h k l = l

fresh_same : (id : Id) (call : Call) (session : Session) → (request_fresh id call session).state.documents ≡ session.documents
fresh_same id (Initialize utf8) session = refl
fresh_same id Shutdown session = refl
fresh_same id (Symbols uri) session = refl
fresh_same id (Goals uri position after) session = refl

running_same : (views : Views) (id : Id) (call : Call) (session : Session) → (request_running views id call session).state.documents ≡ session.documents
running_same views id (Initialize utf8) session = refl
running_same views id Shutdown session = refl
running_same views id (Symbols uri) session =
    open_same id (place_of uri session.documents) (ask_outline_at views id uri) session (λ place. ask_same views place (request_for id uri Outline) session)
running_same views id (Goals uri at after) session =
    open_same id (place_of uri session.documents) (ask_goals_at views id uri at after) session
    (λ place. ask_same views place (request_for id uri (GoalsAt at (wanted_at (document_at session place) at after))) session)

body_same : (why : DecodeFault) (session : Session) → (refuse_body why session).state.documents ≡ session.documents
body_same fault.NotJson session = refl
body_same (fault.NotRequest id) session = refl
body_same (fault.BadParams id initialize) session = refl
body_same (fault.UnknownMethod id) session = refl
body_same fault.NoMem session = refl

hear_adds : (views : Views) (message : Result Incoming DecodeFault) (session : Session) → AreShort session.documents → Adds session (hear views message session)
hear_adds views (Ok (incoming.Request id call)) session short =
    by_phase_adds session session.phase (request_fresh id call session) (request_running views id call session) (refuse_request error.InvalidRequest id session)
    (none_added session (request_fresh id call session) (fresh_same id call session)) (none_added session (request_running views id call session) (running_same views id call session)) (none_added session (refuse_request error.InvalidRequest id session) refl)
hear_adds views (Ok (incoming.Note heard)) session short =
    by_phase_adds session session.phase (notify_exit Early heard session) (notify_running views heard session) (notify_exit Clean heard session)
    (none_added session (notify_exit Early heard session) (exit_same Early heard session)) (note_adds views heard session short) (none_added session (notify_exit Clean heard session) (exit_same Clean heard session))
hear_adds views (Ok incoming.Reply) session short = none_added session (stays session) refl
hear_adds views (Err why) session short = none_added session (refuse_body why session) (body_same why session)

-- a step without a message finishes a sentence
untrue : (b : Bool) → not b ≡ true → b ≡ false
untrue true h = sym h
untrue false h = refl

-- the first that is not ended
pub unended_at : (documents : List Document) (place : ℕ) → first_unended documents ≡ Some place → all_done (document_in documents place).check ≡ false
unended_at documents place found = untrue (all_done (document_in documents place).check) (position-Some (λ d. not (all_done d.check)) documents place (document_in [] 0) found).1

run_takes : (views : Views) (session : Session) (place : ℕ) → first_unended session.documents ≡ Some place → idles (run_at views place session).state < idles session
run_takes views session place found =
    let old : Document = document_at session place in
    let within : place < length session.documents = (position-Some (λ d. not (all_done d.check)) session.documents place (document_in [] 0) found).0 in
    let left : done old.check < count old.check.text = leb-false (count old.check.text) (done old.check) (unended_at session.documents place found) in
    let ran : Came = ran_on views old session.held in
    let more : done old.check < done ran.check = run_more (views.cost old.check.text) old.check session.held left in
    let same : ran.check.text ≡ old.check.text = run_text (views.cost old.check.text) old.check session.held in
    omega (arith, sum_by-set unfinished session.documents place (with_check ran.check old) (document_in [] 0) within, left, more, ap count same)

idle_takes : (views : Views) (session : Session) → waits session ≡ false → idles (step views session event.Idle).state < idles session
idle_takes views session h = rw h (by (first_unended session.documents) refl) where
  none_left : (a b : Bool) → (a || (b || true)) ≡ false → ⊥
  none_left true b k = cc
  none_left false true k = cc
  none_left false false k = cc

  by : (found : Option ℕ) → first_unended session.documents ≡ found → idles (run_first views found session).state < idles session
  by (Some place) e = run_takes views session place e
  by None e = absurd (none_left session.paced (is_shut_down session.phase) (sym (ap (λ f. session.paced || (is_shut_down session.phase || not (is_some f))) e) ∙ h))

pub steps_end : (views : Views) (session : Session) (e : Event) → AreShort session.documents → IdlesLeft e session (step views session e).state
steps_end views session (event.Message message) short = added session (hear views message session) (hear_adds views message session short)
steps_end views session event.Idle short = λ h. idle_takes views session h

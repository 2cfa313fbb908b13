-- Each step leaves those that wait waiting for open documents.
use Rattle.std.proofs.Common.{◌≡◌, ℕ, ℤ, ◌<◌, ◌≤◌, Bool, true, false, not, if◌then◌else◌, nat_le, int_le, Option, None, Some, is_some, Result, Ok, Err, List, [], ◌∷◌, ◌++◌, filter, length, get_or-set_same, arith, refl, sym, subst, ◌∙◌}
use Rattle.std.specs.Prelude.{bytes_eq, codes, position}
use Rattle.std.specs.List.{slice_set}
use Rattle.std.proofs.lemmas.List.Elements.{All-push, Contains-get_or}
use Rattle.std.proofs.lemmas.List.Quantifiers.{position-Some}
use Rattle.std.proofs.lemmas.List.Sums.{count_by-le-length}
use Rattle.std.proofs.lemmas.Slice.Eq.{bytes_eq-Decides}
use Rattle.base_core.specs.declared.limits.TheConstants.{DOCUMENT_LIMIT, WAITING_LIMIT}
use Rattle.base_core.specs.declared.places.Change.{Change}
use Rattle.base_core.specs.declared.places.Position.{Position}
use Rattle.utf16_doc.specs.declared.stops.DocStop.{DocStop}
use Rattle.utf16_doc.specs.declared.stops.DocStop.TheVariants as stop
use Rattle.utf16_doc.specs.Positions.{offset_at}
use Rattle.sentence_split.specs.Sentences.{sentences}
use Rattle.lsp_types.specs.Bodies.{error_body}
use Rattle.lsp_types.specs.declared.error_codes.ErrorCode.TheVariants as error
use Rattle.lsp_types.specs.declared.messages.Id.{Id}
use Rattle.lsp_types.specs.declared.messages.Call.TheVariants.{Symbols, Goals}
use Rattle.lsp_types.specs.declared.messages.Note.{Note}
use Rattle.lsp_types.specs.declared.messages.Note.TheVariants as note
use Rattle.doc_check.specs.Check.{count, started, Views}
use Rattle.doc_check.specs.Document.{all_done}
use Rattle.sched_core.specs.declared.waiting.Question.TheVariants.{Outline, Goals as GoalsAt}
use Rattle.sched_core.specs.declared.waiting.Waiting.{Waiting}
use Rattle.sched_core.specs.Step.{Step, stays, says, and_then}
use Rattle.sched_core.specs.Session.{Document, Session, document_in, document_at, place_of, unchecked, set_waiting}
use Rattle.sched_core.specs.Done.{Came, with_check, came}
use Rattle.sched_core.specs.Waiting.{answer, answer_ready, is_ready, is_ready_for, same_id, cancel_at, wait_for, ask_at, at_open, ask_outline_at, ask_goals_at, request_for, wanted_of, wanted_at}
use Rattle.sched_core.specs.Documents.{refuse, at_known, is_too_long, text_behind, add, did_open, renewed, renew_by, change_at, close_at}
use Rattle.sched_core.specs.Work.{spent_on, ran_on, granted, grant_at, run_at}
use Rattle.sched_core.specs.Messages.{request_running, notify_running}
use Rattle.sched_core.specs.Pending.{HasEnough, WaitsFor}
use Rattle.sched_core.proofs.PendingLemmas.{AllWait, wait_beside_new, wait_further, wait_beside_other, wait_beside_closed, wait_without}
use Rattle.sched_core.proofs.Idles.{found_within}
use Rattle.sched_core.proofs.Units.{run_text, spend_text}

-- a step in a session that runs and goes on
pub record Keeps (session : Session) (made : Step Session) : Type 0 where
  pub paced : made.state.paced ≡ session.paced
  pub phase : made.state.phase ≡ session.phase
  pub wait : AllWait made.state.documents made.state.waiting

module _ (session : Session) (h : AllWait session.documents session.waiting) where
  pub stays_so : (bodies : List (List ℕ)) → Keeps session (says bodies session)
  stays_so bodies = record { paced = refl; phase = refl; wait = h }

  by_test : (test : Bool) (x y : Step Session) → (test ≡ true → Keeps session x) → (test ≡ false → Keeps session y) → Keeps session (if test then x else y)
  by_test true x y k l = k refl
  by_test false x y k l = l refl

  known_keeps : (uri : List ℕ) (found : Option ℕ) (next : ℕ → Session → Step Session) → place_of uri session.documents ≡ found → ((place : ℕ) → place < length session.documents → Keeps session (next place session)) → Keeps session (at_known found next session)
  known_keeps uri None next e k = stays_so _
  known_keeps uri (Some place) next e k = k place (found_within uri session.documents place e)

  -- documents are opened, changed and closed
  open_keeps : (views : Views) (uri : List ℕ) (version : ℤ) (text : List ℕ) → Keeps session (did_open views uri version text session)
  open_keeps views uri version text =
      let new : Step Session = add views (unchecked uri version session.encoding text) session in
      let short : Step Session = if is_too_long text then refuse (codes "text too long") session else new in
      let room : Step Session = if nat_le DOCUMENT_LIMIT (length session.documents) then refuse (codes "too many documents") session else short in
      by_test (is_some (place_of uri session.documents)) (refuse (codes "document already open") session) room (λ e. stays_so _)
      (λ e. by_test (nat_le DOCUMENT_LIMIT (length session.documents)) (refuse (codes "too many documents") session) short (λ e. stays_so _)
      (λ e. by_test (is_too_long text) (refuse (codes "text too long") session) new (λ e. stays_so _)
      (λ e. record { paced = refl; phase = refl; wait = wait_beside_new session.documents (unchecked uri version session.encoding text) _ session.waiting h })))

  renew_keeps : (views : Views) (version : ℤ) (text : Result (List ℕ) DocStop) (place : ℕ) → place < length session.documents → Keeps session (renew_by views place version text session)
  renew_keeps views version (Ok text) place within =
      record { paced = refl; phase = refl; wait = wait_beside_other session.documents place (renewed version text (document_at session place)) _ session.waiting within refl h }
  renew_keeps views version (Err stop.RangeReversed) place within = stays_so _
  renew_keeps views version (Err stop.TooLong) place within = stays_so _
  renew_keeps views version (Err stop.NoMem) place within = stays_so _

  change_keeps : (views : Views) (version : ℤ) (changes : List Change) (place : ℕ) → place < length session.documents → Keeps session (change_at views version changes place session)
  change_keeps views version changes place within =
      by_test (int_le version (document_at session place).version) (refuse (codes "version not greater") session) (renew_by views place version (text_behind changes (document_at session place)) session)
      (λ e. stays_so _) (λ e. renew_keeps views version (text_behind changes (document_at session place)) place within)

  close_keeps : (place : ℕ) → Keeps session (close_at place session)
  close_keeps place = record { paced = refl; phase = refl; wait = wait_beside_closed session.documents place session.waiting h }

  -- sentences are finished
  came_keeps : (place : ℕ) (c : Came) → place < length session.documents → c.check.text ≡ (document_at session place).check.text → AllWait (came place c session).documents (filter (λ w. not (is_ready_for (document_at (came place c session) place) w)) session.waiting)
  came_keeps place c within text =
      let new : Document = with_check c.check (document_at session place) in
      subst (λ d. AllWait (slice_set session.documents place new) (filter (λ w. not (is_ready_for d w)) session.waiting)) (sym (get_or-set_same session.documents place new (document_in [] 0) within))
      (wait_further session.documents place new session.waiting within refl text h)

  grant_keeps : (views : Views) (units place : ℕ) → place < length session.documents → Keeps session (grant_at views units place session)
  grant_keeps views units place within =
      let old : Document = document_at session place in
      by_test (all_done old.check) (stays session) (and_then (granted views units place session) (answer_ready views place)) (λ e. stays_so [])
      (λ e. record { paced = refl; phase = refl; wait = came_keeps place (spent_on views units old session.held) within (spend_text (views.cost old.check.text) old.check session.held units) })

  pub run_keeps : (views : Views) (place : ℕ) → place < length session.documents → Keeps session (run_at views place session)
  run_keeps views place within =
      let old : Document = document_at session place in
      record { paced = refl; phase = refl; wait = came_keeps place (ran_on views old session.held) within (run_text (views.cost old.check.text) old.check session.held) }

  -- requests
  cancel_keeps : (id : Id) (found : Option ℕ) → Keeps session (cancel_at id found session)
  cancel_keeps id None = stays_so []
  cancel_keeps id (Some place) = record { paced = refl; phase = refl; wait = wait_without session.documents session.waiting place h }

  ask_keeps : (views : Views) (uri : List ℕ) (place : ℕ) (w : Waiting) → place_of uri session.documents ≡ Some place → w.uri ≡ uri → HasEnough (document_at session place) w.question → Keeps session (ask_at views place w session)
  ask_keeps views uri place w found about enough =
      by_test (is_ready (document_at session place) w) (says (answer views (document_at session place) w ∷ []) session) (wait_for w session) (λ e. stays_so _)
      (λ e. by_test (nat_le WAITING_LIMIT (length session.waiting)) (says (error_body w.id error.TooManyWaiting ∷ []) session) (stays (set_waiting (session.waiting ++ w ∷ []) session)) (λ e. stays_so _)
      (λ f. record { paced = refl; phase = refl; wait = All-push (WaitsFor session.documents) session.waiting w h (new e) })) where
        there : (place < length session.documents) × (bytes_eq (document_at session place).uri uri ≡ true)
        there = let p = position-Some (λ (d : Document). bytes_eq d.uri uri) session.documents place (document_in [] 0) found in (p.0, p.1)

        new : is_ready (document_at session place) w ≡ false → WaitsFor session.documents w
        new e = record {
          document = document_at session place;
          listed = Contains-get_or session.documents place (document_in [] 0) there.0;
          about = (bytes_eq-Decides w.uri (document_at session place).uri).1 (about ∙ sym ((bytes_eq-Decides (document_at session place).uri uri).0 there.1));
          unready = e;
          enough = enough;
        }

  open_ask : (id : Id) (uri : List ℕ) (found : Option ℕ) (next : ℕ → Session → Step Session) → place_of uri session.documents ≡ found → ((place : ℕ) → place_of uri session.documents ≡ Some place → Keeps session (next place session)) → Keeps session (at_open id found next session)
  open_ask id uri None next e k = stays_so _
  open_ask id uri (Some place) next e k = k place e

  wanted_few : (number : ℕ) (after : Bool) → wanted_of number after ≤ number
  wanted_few number true = omega arith
  wanted_few number false = omega arith

  wanted_within : (d : Document) (at : Position) (after : Bool) → wanted_at d at after ≤ count d.check.text
  wanted_within d at after =
      omega (arith, wanted_few (started d.check.text (offset_at d.encoding d.check.text at)) after, count_by-le-length (λ span. nat_le span.from (offset_at d.encoding d.check.text at)) (sentences 0 0 d.check.text))

  pub note_keeps : (views : Views) (heard : Note) → Keeps session (notify_running views heard session)
  note_keeps views note.Initialized = stays_so []
  note_keeps views note.Exit = record { paced = refl; phase = refl; wait = h }
  note_keeps views (note.Cancel id) = cancel_keeps id (position (λ w. same_id w.id id) session.waiting)
  note_keeps views (note.DidOpen uri version text) = open_keeps views uri version text
  note_keeps views (note.DidChange uri version changes) = known_keeps uri (place_of uri session.documents) (change_at views version changes) refl (change_keeps views version changes)
  note_keeps views (note.DidClose uri) = known_keeps uri (place_of uri session.documents) close_at refl (λ place within. close_keeps place)
  note_keeps views (note.Grant uri units) =
      by_test session.paced (at_known (place_of uri session.documents) (grant_at views units) session) (stays session) (λ e. known_keeps uri (place_of uri session.documents) (grant_at views units) refl (grant_keeps views units)) (λ e. stays_so [])
  note_keeps views note.Trim = record { paced = refl; phase = refl; wait = h }
  note_keeps views note.Other = stays_so []
  note_keeps views note.BadNote = stays_so _

  pub outline_keeps : (views : Views) (id : Id) (uri : List ℕ) → Keeps session (request_running views id (Symbols uri) session)
  outline_keeps views id uri =
      open_ask id uri (place_of uri session.documents) (ask_outline_at views id uri) refl (λ place e. ask_keeps views uri place (request_for id uri Outline) e refl tt)

  pub goals_keep : (views : Views) (id : Id) (uri : List ℕ) (at : Position) (after : Bool) → Keeps session (request_running views id (Goals uri at after) session)
  goals_keep views id uri at after =
      open_ask id uri (place_of uri session.documents) (ask_goals_at views id uri at after) refl
      (λ place e. ask_keeps views uri place (request_for id uri (GoalsAt at (wanted_at (document_at session place) at after))) e refl (wanted_within (document_at session place) at after))

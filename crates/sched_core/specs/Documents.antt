-- Documents are opened, changed and closed.
use Rattle.std.specs.Prelude.{◌≡◌, ℕ, ℤ, nat_le, nat_lt, int_le, Bool, if◌then◌else◌, Option, None, Some, is_some, Result, Ok, Err, List, [], ◌∷◌, ◌++◌, codes, length, remove}
use Rattle.base_core.specs.declared.limits.TheConstants.{TEXT_LIMIT, DOCUMENT_LIMIT}
use Rattle.base_core.specs.declared.places.Change.{Change}
use Rattle.utf16_doc.specs.declared.encoding.Encoding.{Encoding}
use Rattle.utf16_doc.specs.declared.stops.DocStop.{DocStop}
use Rattle.utf16_doc.specs.declared.stops.DocStop.TheVariants.{RangeReversed, TooLong, NoMem}
use Rattle.utf16_doc.specs.Edits.{Edited, changes_in}
use Rattle.doc_check.specs.Check.{Views}
use Rattle.doc_check.specs.Document.{all_done, next_span, changed}
use Rattle.sched_core.specs.declared.open_document.NewText.{NewText}
use Rattle.sched_core.specs.Step.{Step, stays, says, and_then}
use Rattle.sched_core.specs.Session.{Document, Session, unchecked, document_at, place_of, positions, set_documents, update}
use Rattle.sched_core.specs.Done.{take_kept, came}
use Rattle.sched_core.specs.Waiting.{outdate}
use Rattle.sched_core.specs.Bodies.{progress_body, ended_body, diags_body, log_body}

-- a notification is refused, and the client's log says why
abbrev pub refuse : List ℕ → Session → Step Session
refuse why session = says (log_body why ∷ []) session

-- the diagnostics of its text
abbrev pub diags_of : Views → Document → List ℕ
diags_of views document = diags_body (positions document) document.uri document.version (views.diags document.check.text)

-- diagnostics that take all earlier ones back
abbrev pub no_diags : Document → List ℕ
no_diags document = diags_body (positions document) document.uri document.version []

-- the end pair: nothing is left to be checked, and these are the diagnostics of the text
abbrev pub end_pair : Views → Document → List (List ℕ)
end_pair views document = ended_body document.uri document.version ∷ diags_of views document ∷ []

-- progress: what is left begins at the first sentence that isn't finished
abbrev pub progress_from : Document → List ℕ
progress_from document =
    progress_body (positions document) document.uri document.version (next_span document.check).from (length document.check.text)

-- how far a document is: ended, or with this left
abbrev pub status_bodies : Views → Document → List (List ℕ)
status_bodies views document = if all_done document.check then end_pair views document else progress_from document ∷ []

-- the document at a place says how far it is
abbrev pub tell : Views → ℕ → Session → Step Session
tell views place session = says (status_bodies views (document_at session place)) session

-- the document at a place takes the sentences that are held, and says how far it is
abbrev pub settle : Views → ℕ → Session → Step Session
settle views place session =
    and_then (stays (came place (take_kept (document_at session place).check session.held) session)) (tell views place)

-- refused where no document of this name is open; else by its place
abbrev pub at_known : Option ℕ → (ℕ → Session → Step Session) → Session → Step Session
at_known None next session = refuse (codes "unknown document") session
at_known (Some place) next session = next place session

-- a text of over 1,048,576 bytes is not taken
abbrev pub is_too_long : List ℕ → Bool
is_too_long text = nat_lt TEXT_LIMIT (length text)

-- a document more, which takes the sentences that are held
abbrev pub add : Views → Document → Session → Step Session
add views document session =
    and_then (stays (set_documents (session.documents ++ document ∷ []) session)) (settle views (length session.documents))

-- a document is opened: not twice, no more than 64, and none that is too long
abbrev pub did_open : Views → List ℕ → ℤ → List ℕ → Session → Step Session
did_open views uri version text session =
    if is_some (place_of uri session.documents) then refuse (codes "document already open") session else
    (if nat_le DOCUMENT_LIMIT (length session.documents) then refuse (codes "too many documents") session else
    (if is_too_long text then refuse (codes "text too long") session else
    add views (unchecked uri version session.encoding text) session))

-- the text that edits lead to
abbrev pub edited_text : Result Edited DocStop → Result (List ℕ) DocStop
edited_text (Ok edited) = Ok edited.text
edited_text (Err stop) = Err stop

-- the text of a document behind changes, each made in the text that those before it left; or the first refusal
abbrev pub text_behind : List Change → Document → Result (List ℕ) DocStop
text_behind changes document = edited_text (changes_in document.encoding document.check.text changes)

-- a call gives this text, with its characters counted so, unless memory runs out
abbrev pub Edits : Result (List ℕ) DocStop → Encoding → Result NewText DocStop → Type 0
Edits text encoding (Ok new) = (text ≡ Ok new.doc.text) × (new.doc.encoding ≡ encoding)
Edits text encoding (Err NoMem) = Unit {0}
Edits text encoding (Err stop) = text ≡ Err stop

-- a new version: the sentences stay finished that both texts begin with
abbrev pub renewed : ℤ → List ℕ → Document → Document
renewed version text document = record document { version = version; check = changed text document.check }

-- the same with what its characters are counted in
abbrev pub restarted : ℤ → Encoding → List ℕ → Document → Document
restarted version encoding text document = record document { version = version; encoding = encoding; check = changed text document.check }

-- a new version of the document at a place, in which the requests about it are refused
abbrev pub begin_again : Views → ℕ → ℤ → List ℕ → Session → Step Session
begin_again views place version text session = and_then (stays (update place (renewed version text) session)) (settle views place)

abbrev pub renew : Views → ℕ → ℤ → List ℕ → Session → Step Session
renew views place version text session =
    and_then (outdate (document_at session place).uri session) (begin_again views place version text)

-- a new version with this text, or a refusal that changes nothing; want of memory is none, so it never comes
abbrev pub renew_by : Views → ℕ → ℤ → Result (List ℕ) DocStop → Session → Step Session
renew_by views place version (Ok text) session = renew views place version text session
renew_by views place version (Err RangeReversed) session = refuse (codes "range reversed") session
renew_by views place version (Err TooLong) session = refuse (codes "text too long") session
renew_by views place version (Err NoMem) session = stays session

-- the document at a place is changed to a version, a greater one
abbrev pub change_at : Views → ℤ → List Change → ℕ → Session → Step Session
change_at views version changes place session =
    if int_le version (document_at session place).version then refuse (codes "version not greater") session else
    renew_by views place version (text_behind changes (document_at session place)) session

abbrev pub did_change : Views → List ℕ → ℤ → List Change → Session → Step Session
did_change views uri version changes session = at_known (place_of uri session.documents) (change_at views version changes) session

-- the document at a place is taken away: its diagnostics are taken back
abbrev pub take_away : ℕ → Session → Step Session
take_away place session =
    and_then (stays (set_documents (remove session.documents place) session)) (says (no_diags (document_at session place) ∷ []))

-- it is closed, and the requests about it are refused
abbrev pub close_at : ℕ → Session → Step Session
close_at place session = and_then (outdate (document_at session place).uri session) (take_away place)

abbrev pub did_close : List ℕ → Session → Step Session
did_close uri session = at_known (place_of uri session.documents) close_at session

-- A step of the documents is that of the message.
use Rattle.std.proofs.Common.{◌≡◌, ℕ, ℤ, ◌+◌, ◌<◌, ◌≤◌, int_le, false, None, Some, Result, Ok, Err, OnOk, IfOk, codes, List, [], ◌∷◌, ◌++◌, length, get_or, slice_set, nat_le, append_assoc, refl, ap, sym, subst, ◌∙◌, arith}
use Rattle.std.proofs.lemmas.Bool.{lt-leb}
use Rattle.std.proofs.lemmas.List.{get_or_read}
use Rattle.base_core.specs.declared.limits.TheConstants.{TEXT_LIMIT, DOCUMENT_LIMIT}
use Rattle.base_core.specs.declared.memory.NoMem.{NoMem}
use Rattle.base_core.specs.declared.places.Change.{Change}
use Rattle.utf16_doc.specs.declared.encoding.Encoding.{Encoding}
use Rattle.utf16_doc.specs.declared.stops.DocStop.{DocStop}
use Rattle.utf16_doc.specs.declared.stops.DocStop.TheVariants.{RangeReversed, TooLong}
use Rattle.lsp_types.specs.declared.messages.Note.{Note}
use Rattle.lsp_types.specs.declared.messages.Note.TheVariants as note
use Rattle.prover_iface.specs.Exec.{Worked}
use Rattle.doc_check.specs.Check.{Views}
use Rattle.doc_check.specs.Document.{done as doc_done, all_done}
use Rattle.sched_core.specs.declared.events.Written.{Written}
use Rattle.sched_core.specs.declared.events.Event.{Event}
use Rattle.sched_core.specs.declared.open_document.NewText.{NewText}
use Rattle.sched_core.specs.Step.{Step, Adds, Makes, and_then}
use Rattle.sched_core.specs.Waiting.{outdate, answer_ready}
use Rattle.sched_core.specs.Session.{Document, Session, document_in, document_at, place_of, unchecked, AreShort, Held, set_documents, update}
use Rattle.sched_core.specs.Done.{Came, with_check, came}
use Rattle.sched_core.specs.Coming.{Comes}
use Rattle.sched_core.specs.Work.{spent_on, ran_on, progress_since, pair_at_end, granted, grant_at, run_on, run_at}
use Rattle.sched_core.specs.Documents.{settle, renewed, restarted, is_too_long, did_open, add, did_change, change_at, begin_again, renew, renew_by, text_behind, Edits, refuse, did_close, take_away, close_at}
use Rattle.sched_core.specs.Bodies.{log_body}
use Rattle.sched_core.specs.Messages.{notify_running, notify_grant}
use Rattle.sched_core.specs.Plain.{step, IdlesLeft}
use Rattle.sched_core.proofs.Idles.{steps_end}

same_step : (due step : Step Session) (r : Result Written NoMem) (after : Session) → due ≡ step → Makes step r after → Makes due r after
same_step due step r after e made = subst (λ s. Makes s r after) (sym e) made

open_is : (views : Views) (session : Session) (uri : List ℕ) (version : ℤ) (text : List ℕ) → place_of uri session.documents ≡ None → length session.documents < DOCUMENT_LIMIT → length text ≤ TEXT_LIMIT → did_open views uri version text session ≡ add views (unchecked uri version session.encoding text) session
open_is views session uri version text none few short =
    let room : nat_le DOCUMENT_LIMIT (length session.documents) ≡ false = lt-leb DOCUMENT_LIMIT (length session.documents) few in
    let fits : is_too_long text ≡ false = lt-leb (TEXT_LIMIT + 1) (length text) (omega (arith, short)) in
    rw (none, room, fits) refl

-- a step that adds its bodies to none
made_of : (step : Step Session) (before bodies : List (List ℕ)) (done : Unit {0}) (w : Written) (state : Session) → before ≡ [] → step.exit ≡ None → Adds {E = NoMem} step before (Ok done) bodies state → w.bodies ≡ bodies → w.exit ≡ None → Makes step (Ok w) state
made_of step before bodies done w state none goes_on adds wrote stays = (wrote ∙ adds.0 ∙ ap (λ b. b ++ step.bodies) none, stays ∙ sym goes_on, adds.1)

-- one step after another
then_adds : {E : Type 0} (first : Step Session) (next : Session → Step Session) (before mid now : List (List ℕ)) (done : Unit {0}) (r : Result (Unit {0}) E) (state new : Session) → first.exit ≡ None → Adds {E = E} first before (Ok done) mid state → Adds (next state) mid r now new → Adds (and_then first next) before r now new
then_adds first next before mid now done (Err e) state new goes_on one two = tt
then_adds first next before mid now done (Ok also) state new goes_on one two =
    rw goes_on (
      two.0 ∙ ap (λ b. b ++ (next state).bodies) one.0 ∙ append_assoc before first.bodies (next state).bodies ∙ ap (λ s. before ++ (first.bodies ++ (next s).bodies)) one.1,
      two.1 ∙ ap (λ s. (next s).state) one.1,
    )

-- a document is opened
pub open_made : (views : Views) (session : Session) (uri : List ℕ) (version : ℤ) (text : List ℕ) (document : Document) (r : Result Written NoMem) (after : Session) → place_of uri session.documents ≡ None → length session.documents < DOCUMENT_LIMIT → length text ≤ TEXT_LIMIT → document ≡ unchecked uri version session.encoding text → Makes (add views document session) r after → Makes (did_open views uri version text session) r after
open_made views session uri version text document r after none few short is made =
    same_step (did_open views uri version text session) (add views document session) r after
    (open_is views session uri version text none few short ∙ ap (λ d. add views d session) (sym is)) made

-- the document that is opened has this text
pub text_made : (views : Views) (session : Session) (uri : List ℕ) (version : ℤ) (encoding : Encoding) (text : List ℕ) (document : Document) (r : Result Written NoMem) (after : Session) → document ≡ unchecked uri version encoding text → Makes (add views document session) r after → Makes (add views (unchecked uri version encoding text) session) r after
text_made views session uri version encoding text document r after is made = subst (λ d. Makes (add views d session) r after) is made

change_is : (views : Views) (session : Session) (version : ℤ) (changes : List Change) (place : ℕ) (outcome : Result (List ℕ) DocStop) → int_le version (document_at session place).version ≡ false → text_behind changes (document_at session place) ≡ outcome → change_at views version changes place session ≡ renew_by views place version outcome session
change_is views session version changes place outcome greater is = rw (greater, is) refl

-- a document is changed to the text behind changes
pub change_made : (views : Views) (session : Session) (version given : ℤ) (changes : List Change) (place : ℕ) (text : List ℕ) (r : Result Written NoMem) (after : Session) → int_le version (document_at session place).version ≡ false → text_behind changes (document_at session place) ≡ Ok text → given ≡ version → Makes (renew views place given text session) r after → Makes (change_at views version changes place session) r after
change_made views session version given changes place text r after greater is same made =
    same_step (change_at views version changes place session) (renew views place given text session) r after
    (change_is views session version changes place (Ok text) greater is ∙ ap (λ v. renew views place v text session) (sym same)) made

-- or the changes are refused
change_refused : (views : Views) (session : Session) (version : ℤ) (changes : List Change) (place : ℕ) (stop : DocStop) (r : Result Written NoMem) (after : Session) → int_le version (document_at session place).version ≡ false → text_behind changes (document_at session place) ≡ Err stop → Makes (renew_by views place version (Err stop) session) r after → Makes (change_at views version changes place session) r after
change_refused views session version changes place stop r after greater is made =
    same_step (change_at views version changes place session) (renew_by views place version (Err stop) session) r after
    (change_is views session version changes place (Err stop) greater is) made

refused_made : (session : Session) (why : List ℕ) (r : Result Written NoMem) → IfOk r (λ w. w.bodies ≡ log_body why ∷ []) → IfOk r (λ w. w.exit ≡ None) → Makes (refuse why session) r session
refused_made session why (Ok w) wrote stays = (wrote, stays, refl)
refused_made session why (Err none) wrote stays = tt

-- the refusal that edits give
edits_err : (document known : Document) (changes : List Change) (given : Result NewText DocStop) (found stop : DocStop) → document ≡ known → given ≡ Err found → found ≡ stop → Edits (text_behind changes document) document.encoding given → Edits (text_behind changes known) known.encoding (Err stop)
edits_err document known changes given found stop same is kind told =
    subst (λ d. Edits (text_behind changes d) d.encoding (Err stop)) same (subst (λ s. Edits (text_behind changes document) document.encoding (Err s)) kind (subst (Edits (text_behind changes document) document.encoding) is told))

-- a range is reversed
pub reversed_made : (views : Views) (session : Session) (version : ℤ) (changes : List Change) (place : ℕ) (document : Document) (given : Result NewText DocStop) (found : DocStop) (r : Result Written NoMem) → int_le version (document_at session place).version ≡ false → document ≡ document_at session place → given ≡ Err found → found ≡ RangeReversed → Edits (text_behind changes document) document.encoding given → IfOk r (λ w. w.bodies ≡ log_body (codes "range reversed") ∷ []) → IfOk r (λ w. w.exit ≡ None) → Makes (change_at views version changes place session) r session
reversed_made views session version changes place document given found r greater same is kind told wrote stays =
    change_refused views session version changes place RangeReversed r session greater
    (edits_err document (document_at session place) changes given found RangeReversed same is kind told) (refused_made session (codes "range reversed") r wrote stays)

-- a text is too long
pub too_long_made : (views : Views) (session : Session) (version : ℤ) (changes : List Change) (place : ℕ) (document : Document) (given : Result NewText DocStop) (found : DocStop) (r : Result Written NoMem) → int_le version (document_at session place).version ≡ false → document ≡ document_at session place → given ≡ Err found → found ≡ TooLong → Edits (text_behind changes document) document.encoding given → IfOk r (λ w. w.bodies ≡ log_body (codes "text too long") ∷ []) → IfOk r (λ w. w.exit ≡ None) → Makes (change_at views version changes place session) r session
too_long_made views session version changes place document given found r greater same is kind told wrote stays =
    change_refused views session version changes place TooLong r session greater
    (edits_err document (document_at session place) changes given found TooLong same is kind told) (refused_made session (codes "text too long") r wrote stays)

-- the document of a name is changed
pub known_made : (views : Views) (session : Session) (uri : List ℕ) (version given : ℤ) (changes : List Change) (place : ℕ) (r : Result Written NoMem) (after : Session) → place_of uri session.documents ≡ Some place → given ≡ version → Makes (change_at views given changes place session) r after → Makes (did_change views uri version changes session) r after
known_made views session uri version given changes place r after found e made =
    rw found (subst (λ v. Makes (change_at views v changes place session) r after) e made)

-- a notification of an opening
pub did_open_made : (views : Views) (session : Session) (heard : Note) (uri : List ℕ) (version : ℤ) (text : List ℕ) (name : List ℕ) (number : ℤ) (bytes : List ℕ) (r : Result Written NoMem) (after : Session) → heard ≡ note.DidOpen uri version text → name ≡ uri → number ≡ version → bytes ≡ text → Makes (did_open views name number bytes session) r after → Makes (notify_running views heard session) r after
did_open_made views session heard uri version text name number bytes r after e f g h made =
    same_step (notify_running views heard session) (did_open views name number bytes session) r after
    (ap (λ n. notify_running views n session) e ∙ ap (λ u. did_open views u version text session) (sym f) ∙ ap (λ v. did_open views name v text session) (sym g) ∙ ap (λ t. did_open views name number t session) (sym h))
    made

-- of a change
pub did_change_made : (views : Views) (session : Session) (heard : Note) (uri : List ℕ) (version : ℤ) (changes : List Change) (name : List ℕ) (number : ℤ) (edits : List Change) (r : Result Written NoMem) (after : Session) → heard ≡ note.DidChange uri version changes → name ≡ uri → number ≡ version → edits ≡ changes → Makes (did_change views name number edits session) r after → Makes (notify_running views heard session) r after
did_change_made views session heard uri version changes name number edits r after e f g h made =
    same_step (notify_running views heard session) (did_change views name number edits session) r after
    (ap (λ n. notify_running views n session) e ∙ ap (λ u. did_change views u version changes session) (sym f) ∙ ap (λ v. did_change views name v changes session) (sym g) ∙ ap (λ t. did_change views name number t session) (sym h))
    made

-- of a closing
pub did_close_made : (views : Views) (session : Session) (heard : Note) (uri : List ℕ) (name : List ℕ) (r : Result Written NoMem) (after : Session) → heard ≡ note.DidClose uri → name ≡ uri → Makes (did_close name session) r after → Makes (notify_running views heard session) r after
did_close_made views session heard uri name r after e f made =
    same_step (notify_running views heard session) (did_close name session) r after (ap (λ n. notify_running views n session) e ∙ ap (λ u. did_close u session) (sym f)) made

pub grant_is : (views : Views) (session : Session) (heard : Note) (uri : List ℕ) (units : ℕ) (name : List ℕ) → heard ≡ note.Grant uri units → name ≡ uri → notify_running views heard session ≡ notify_grant views name units session
grant_is views session heard uri units name e f =
    ap (λ n. notify_running views n session) e ∙ ap (λ u. notify_grant views u units session) (sym f)

-- of units
pub granted_made : (views : Views) (session : Session) (heard : Note) (uri : List ℕ) (units : ℕ) (name : List ℕ) (r : Result Written NoMem) (after : Session) → heard ≡ note.Grant uri units → name ≡ uri → Makes (notify_grant views name units session) r after → Makes (notify_running views heard session) r after
granted_made views session heard uri units name r after e f made =
    same_step (notify_running views heard session) (notify_grant views name units session) r after (grant_is views session heard uri units name e f) made

granted_is : (views : Views) (session : Session) (units place : ℕ) → all_done (document_at session place).check ≡ false → grant_at views units place session ≡ and_then (granted views units place session) (answer_ready views place)
granted_is views session units place left = rw left refl

granted_adds : (views : Views) (session mid : Session) (units place before : ℕ) (bodies : List (List ℕ)) → before ≡ doc_done (document_at session place).check → mid ≡ came place (spent_on views units (document_at session place) session.held) session → bodies ≡ progress_since views before (document_at mid place) → Adds {E = NoMem} (granted views units place session) [] (Ok tt) bodies mid
granted_adds views session mid units place before bodies from put told =
    (told ∙ ap (λ n. progress_since views n (document_at mid place)) from ∙ ap (λ s. progress_since views (doc_done (document_at session place).check) (document_at s place)) put, put)

-- units for a document that is not ended
pub grant_made : (views : Views) (session mid new : Session) (units place before : ℕ) (first bodies : List (List ℕ)) (done : Unit {0}) (w : Written) → all_done (document_at session place).check ≡ false → before ≡ doc_done (document_at session place).check → mid ≡ came place (spent_on views units (document_at session place) session.held) session → first ≡ progress_since views before (document_at mid place) → Adds {E = NoMem} (answer_ready views place mid) first (Ok done) bodies new → w.bodies ≡ bodies → w.exit ≡ None → Makes (grant_at views units place session) (Ok w) new
grant_made views session mid new units place before first bodies done w left from put told answered wrote stays =
    same_step (grant_at views units place session) (and_then (granted views units place session) (answer_ready views place)) (Ok w) new (granted_is views session units place left)
    (made_of (and_then (granted views units place session) (answer_ready views place)) [] bodies done w new refl refl
    (then_adds {E = NoMem} (granted views units place session) (answer_ready views place) [] first bodies tt (Ok done) mid new refl (granted_adds views session mid units place before first from put told) answered) wrote stays)

-- a document that takes what is held, and then runs
pub run_made : (views : Views) (session mid new : Session) (place : ℕ) (first bodies : List (List ℕ)) (done : Unit {0}) (w : Written) → mid ≡ came place (ran_on views (document_at session place) session.held) session → first ≡ pair_at_end views (document_at mid place) → Adds {E = NoMem} (answer_ready views place mid) first (Ok done) bodies new → w.bodies ≡ bodies → w.exit ≡ None → Makes (run_at views place session) (Ok w) new
run_made views session mid new place first bodies done w put told answered wrote stays =
    made_of (run_at views place session) [] bodies done w new refl refl
    (then_adds {E = NoMem} (run_on views place session) (answer_ready views place) [] first bodies tt (Ok done) mid new refl (told ∙ ap (λ s. pair_at_end views (document_at s place)) put, put) answered) wrote stays

restarted_is : (session : Session) (place : ℕ) (version : ℤ) (encoding : Encoding) (text : List ℕ) → encoding ≡ (document_at session place).encoding → update place (restarted version encoding text) session ≡ update place (renewed version text) session
restarted_is session place version encoding text same = ap (λ e. update place (restarted version e text) session) same

-- a document's new version
pub begun_adds : {E : Type 0} (views : Views) (session mid new : Session) (place : ℕ) (version : ℤ) (encoding : Encoding) (text : List ℕ) (before now : List (List ℕ)) (r : Result (Unit {0}) E) → encoding ≡ (document_at session place).encoding → mid ≡ update place (restarted version encoding text) session → Adds (settle views place mid) before r now new → Adds (begin_again views place version text session) before r now new
begun_adds views session mid new place version encoding text before now r same is made =
    subst (λ s. Adds (settle views place s) before r now new) (is ∙ restarted_is session place version encoding text same) made

pub renew_made : (views : Views) (session mid new : Session) (place : ℕ) (version given : ℤ) (text : List ℕ) (before first bodies : List (List ℕ)) (one two : Unit {0}) (w : Written) → given ≡ version → before ≡ [] → Adds {E = NoMem} (outdate (document_at session place).uri session) before (Ok one) first mid → Adds {E = NoMem} (begin_again views place given text mid) first (Ok two) bodies new → w.bodies ≡ bodies → w.exit ≡ None → Makes (renew views place version text session) (Ok w) new
renew_made views session mid new place version given text before first bodies one two w same none refused begun wrote stays =
    made_of (renew views place version text session) before bodies two w new none refl
    (then_adds {E = NoMem} (outdate (document_at session place).uri session) (begin_again views place version text) before first bodies one (Ok two) mid new refl refused
    (subst (λ v. Adds {E = NoMem} (begin_again views place v text mid) first (Ok two) bodies new) same begun)) wrote stays

-- a document is closed
pub close_made : (session mid new : Session) (place : ℕ) (before first bodies : List (List ℕ)) (one two : Unit {0}) (w : Written) → before ≡ [] → Adds {E = NoMem} (outdate (document_at session place).uri session) before (Ok one) first mid → Adds {E = NoMem} (take_away place mid) first (Ok two) bodies new → w.bodies ≡ bodies → w.exit ≡ None → Makes (close_at place session) (Ok w) new
close_made session mid new place before first bodies one two w none refused gone wrote stays =
    made_of (close_at place session) before bodies two w new none refl
    (then_adds {E = NoMem} (outdate (document_at session place).uri session) (take_away place) before first bodies one (Ok two) mid new refl refused gone) wrote stays

-- the document at a place, as it is read
pub seen_at : (items documents : List Document) (place : ℕ) (document : Document) → items ≡ documents → place < length documents → document ≡ get_or items place document → document ≡ document_in documents place
seen_at items documents place document same within read =
    get_or_read documents place document within (read ∙ ap (λ ds. get_or ds place document) same) (document_in [] 0)

-- how many idle steps are left behind a step that is made
pub idles_made : (views : Views) (session : Session) (e : Event) (r : Result Written NoMem) (after : Session) → AreShort session.documents → Makes (step views session e) r after → OnOk r (IdlesLeft e session after)
idles_made views session e (Ok w) after short made = subst (λ s. IdlesLeft e session s) (sym made.2) (steps_end views session e short)
idles_made views session e (Err none) after short made = tt

-- a document more
pub add_made : (views : Views) (session mid new : Session) (place : ℕ) (document : Document) (before bodies : List (List ℕ)) (done : Unit {0}) (w : Written) → place ≡ length session.documents → mid ≡ set_documents (session.documents ++ document ∷ []) session → before ≡ [] → Adds {E = NoMem} (settle views place mid) before (Ok done) bodies new → w.bodies ≡ bodies → w.exit ≡ None → Makes (add views document session) (Ok w) new
add_made views session mid new place document before bodies done w last is none settled wrote stays =
    made_of (add views document session) before bodies done w new none refl
    (subst (λ n. Adds {E = NoMem} (settle views n (set_documents (session.documents ++ document ∷ []) session)) before (Ok done) bodies new) last
    (subst (λ s. Adds {E = NoMem} (settle views place s) before (Ok done) bodies new) is settled)) wrote stays

-- the document at a place and what is held are these now
abbrev pub put_at : ℕ → Document → Held → Session → Session
put_at place document held session = record session { documents = slice_set session.documents place document; held = held }

-- a call on the document at a place
pub at_made : {A E : Type 0} (result : Result A E) (f : Document → Held → Came) (inside session : Session) (place : ℕ) (old document : Document) (held : Held) → inside ≡ session → old ≡ document_in inside.documents place → Comes (f old inside.held) old result document held → OnOk result (put_at place document held inside ≡ came place (f (document_at session place) session.held) session)
at_made (Err error) f inside session place old document held same seen comes = tt
at_made (Ok answer) f inside session place old document held same seen comes =
    ap (λ d. put_at place d held inside) (comes.0 ∙ ap (λ o. with_check (f o inside.held).check o) seen)
    ∙ ap (λ h. put_at place (with_check (f (document_at inside place) inside.held).check (document_at inside place)) h inside) (comes.1 ∙ ap (λ o. (f o inside.held).held) seen)
    ∙ ap (λ s. came place (f (document_at s place) s.held) s) same

pub at_work : {A E : Type 0} (result : Result A E) (f : Document → Held → Came) (inside session : Session) (place : ℕ) (old : Document) (before now : ℕ) → inside ≡ session → old ≡ document_in inside.documents place → Worked (f old inside.held).work before now result → Worked (f (document_at session place) session.held).work before now result
at_work result f inside session place old before now same seen works =
    subst (λ s. Worked (f (document_at s place) s.held).work before now result) same (subst (λ d. Worked (f d inside.held).work before now result) seen works)

-- No body has a number with a point, so that all of its bytes are told.
use Rattle.std.proofs.Common.{◌≡◌, ℕ, ℤ, pos, negsuc, false, Result, Ok, Err, IfOk, List, [], ◌∷◌, map, length, refl, ap, ◌∙◌}
use Rattle.serde_json.specs.Data.{Data}
use Rattle.serde_json.specs.Find.{is_float, of_integer}
use Rattle.serde_json.specs.View.{items_of}
use Rattle.serde_json.specs.Written.{has_float, items_have_float}
use Rattle.base_core.specs.declared.places.Position.{Position}
use Rattle.doc_check.specs.declared.diagnostics.AbsDiag.{AbsDiag}
use Rattle.lsp_types.specs.Bodies.{note_body}
use Rattle.utf16_doc.specs.Indexed.{Document as Indexed, position_in}
use Rattle.doc_check.specs.Document.{next_span}
use Rattle.sched_core.specs.Session.{Document, positions}
use Rattle.sched_core.specs.Documents.{progress_from}
use Rattle.goals_query.specs.Places.{range_data}
use Rattle.sched_core.specs.Bodies.{progress_body, processing_data, progress_data, diag_data, diags_data, diags_body, log_data}

whole : (z : ℤ) → is_float (of_integer z) ≡ false
whole (pos n) = refl
whole (negsuc n) = refl

pub progress_whole : (at : ℕ → Position) (uri : List ℕ) (version : ℤ) (from to : ℕ) → has_float (progress_data (processing_data (range_data at from to) ∷ []) uri version) ≡ false
progress_whole at uri version from to = rw (whole version) refl

pub ended_whole : (uri : List ℕ) (version : ℤ) → has_float (progress_data [] uri version) ≡ false
ended_whole uri version = rw (whole version) refl

all_whole : (at : ℕ → Position) (diags : List AbsDiag) → items_have_float (items_of (map (diag_data at) diags)) ≡ false
all_whole at [] = refl
all_whole at (diag ∷ diags) = all_whole at diags

pub diags_whole : (at : ℕ → Position) (uri : List ℕ) (version : ℤ) (diags : List AbsDiag) → has_float (diags_data at uri version diags) ≡ false
diags_whole at uri version diags = rw (all_whole at diags, whole version) refl

pub log_whole : (text : List ℕ) → has_float (log_data text) ≡ false
log_whole text = refl

-- the bytes that were written of a notification's parameters
pub note_is : {E : Type 0} (r : Result (List ℕ) E) (method : List ℕ) (params due : Data) → params ≡ due → has_float due ≡ false → IfOk r (λ b. has_float params ≡ false → b ≡ note_body method params) → IfOk r (λ b. b ≡ note_body method due)
note_is (Ok b) method params due e h told = told (ap has_float e ∙ h) ∙ ap (note_body method) e
note_is (Err x) method params due e h told = tt

-- the bytes of progress are those of the document that is seen
pub progress_is : {E : Type 0} (r : Result (List ℕ) E) (uri : List ℕ) (version : ℤ) (doc : Indexed) (from : ℕ) (document : Document) → uri ≡ document.uri → version ≡ document.version → doc ≡ record { encoding = document.encoding; text = document.check.text } → from ≡ (next_span document.check).from → IfOk r (λ b. b ≡ progress_body (position_in doc) uri version from (length doc.text)) → IfOk r (λ b. b ≡ progress_from document)
progress_is (Ok b) uri version doc from document e f g h told =
    told
    ∙ ap (λ u. progress_body (position_in doc) u version from (length doc.text)) e
    ∙ ap (λ v. progress_body (position_in doc) document.uri v from (length doc.text)) f
    ∙ ap (λ d. progress_body (position_in d) document.uri document.version from (length d.text)) g
    ∙ ap (λ n. progress_body (positions document) document.uri document.version n (length document.check.text)) h
progress_is (Err x) uri version doc from document e f g h told = tt

-- and those of diagnostics
pub diags_are : {E : Type 0} (r : Result (List ℕ) E) (uri : List ℕ) (version : ℤ) (doc : Indexed) (given due : List AbsDiag) (document : Document) → uri ≡ document.uri → version ≡ document.version → doc ≡ record { encoding = document.encoding; text = document.check.text } → given ≡ due → IfOk r (λ b. b ≡ diags_body (position_in doc) uri version given) → IfOk r (λ b. b ≡ diags_body (positions document) document.uri document.version due)
diags_are (Ok b) uri version doc given due document e f g h told =
    told
    ∙ ap (λ u. diags_body (position_in doc) u version given) e
    ∙ ap (λ v. diags_body (position_in doc) document.uri v given) f
    ∙ ap (λ d. diags_body (position_in d) document.uri document.version given) g
    ∙ ap (diags_body (positions document) document.uri document.version) h
diags_are (Err x) uri version doc given due document e f g h told = tt

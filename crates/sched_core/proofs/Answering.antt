-- What is told of a document in the answer to a request.
use Rattle.std.proofs.Common.{◌≡◌, ℕ, ℤ, false, Some, Result, Ok, Err, IfOk, OnOk, List, [], ◌∷◌, ◌++◌, append_assoc, subst, sym, ap, ◌∙◌}
use Rattle.serde_json.specs.Data.{Data}
use Rattle.serde_json.specs.View.{view}
use Rattle.serde_json.specs.Written.{has_float}
use Rattle.serde_json.specs.declared.value.Value.{Value}
use Rattle.base_core.specs.declared.memory.NoMem.{NoMem}
use Rattle.base_core.specs.declared.places.Position.{Position}
use Rattle.utf16_doc.specs.Indexed.{Document as Indexed, position_in}
use Rattle.sentence_split.specs.Sentences.{sentences}
use Rattle.lsp_types.specs.declared.messages.Id.{Id}
use Rattle.lsp_types.specs.Bodies.{result_body}
use Rattle.doc_check.specs.Check.{Views}
use Rattle.doc_check.specs.Document.{Doc}
use Rattle.goals_query.specs.Symbols.{symbols_data}
use Rattle.goals_query.proofs.Floats.{answer_whole, symbols_whole}
use Rattle.sched_core.specs.declared.events.Written.{Written}
use Rattle.sched_core.specs.declared.waiting.Question.{Question}
use Rattle.sched_core.specs.declared.waiting.Question.TheVariants.{Outline, Goals}
use Rattle.sched_core.specs.Step.{Makes}
use Rattle.sched_core.specs.Session.{Document, Session, document_at, place_of, positions}
use Rattle.sched_core.specs.Waiting.{told_of, request_for, wanted_at, ask_at, ask_goals}

-- what a document declares
pub told_outline : {E : Type 0} (views : Views) (r : Result Value E) (doc : Indexed) (check : Doc) (uri : List ℕ) (version : ℤ) (document : Document) (question : Question) → record { uri = uri; version = version; encoding = doc.encoding; check = check } ≡ document → doc.text ≡ check.text → question ≡ Outline → IfOk r (λ v. view v ≡ symbols_data (position_in doc) (sentences 0 0 check.text) (views.outline check.text)) → IfOk r (λ v. view v ≡ told_of views document question)
told_outline views r doc check uri version document question shown same asked told =
    subst (λ d. IfOk r (λ v. view v ≡ told_of views d question)) shown
    (subst (λ q. IfOk r (λ v. view v ≡ told_of views (record { uri = uri; version = version; encoding = doc.encoding; check = check }) q)) (sym asked)
    (subst (λ t. IfOk r (λ v. view v ≡ symbols_data (position_in (record { encoding = doc.encoding; text = t })) (sentences 0 0 check.text) (views.outline check.text))) same told))

-- no number with a point is told
pub told_whole : (views : Views) (d : Document) (question : Question) → has_float (told_of views d question) ≡ false
told_whole views d Outline = symbols_whole (positions d) (sentences 0 0 d.check.text) (views.outline d.check.text)
told_whole views d (Goals at number) = answer_whole (views.goals d.check.text number) at d.uri d.version

-- the bytes that were written of an answer
pub result_is : {E : Type 0} (r : Result (List ℕ) E) (id : Id) (x due : Data) → x ≡ due → has_float due ≡ false → IfOk r (λ b. has_float x ≡ false → b ≡ result_body id x) → IfOk r (λ b. b ≡ result_body id due)
result_is (Ok b) id x due e h told = told (ap has_float e ∙ h) ∙ ap (result_body id) e
result_is (Err x) id y due e h told = tt

-- two bodies more
pub pair_added : {E : Type 0} (r : Result (Unit {0}) E) (before mid now : List (List ℕ)) (a b x y : List ℕ) → mid ≡ before ++ a ∷ [] → OnOk r (now ≡ mid ++ b ∷ []) → a ≡ x → b ≡ y → OnOk r (now ≡ before ++ (x ∷ y ∷ []))
pair_added (Err e) before mid now a b x y one two is also = tt
pair_added (Ok done) before mid now a b x y one two is also =
    two ∙ ap (λ m. m ++ b ∷ []) one ∙ append_assoc before (a ∷ []) (b ∷ []) ∙ ap (λ c. before ++ (c ∷ b ∷ [])) is ∙ ap (λ c. before ++ (x ∷ c ∷ [])) also

-- the goals at a position of a document that is open
pub ask_goals_made : (views : Views) (session : Session) (id : Id) (uri : List ℕ) (at : Position) (after : _) (place number : ℕ) (r : Result Written NoMem) (new : Session) → place_of uri session.documents ≡ Some place → number ≡ wanted_at (document_at session place) at after → Makes (ask_at views place (request_for id uri (Goals at number)) session) r new → Makes (ask_goals views id uri at after session) r new
ask_goals_made views session id uri at after place number r new found is made =
    rw found (subst (λ n. Makes (ask_at views place (request_for id uri (Goals at n)) session) r new) is made)

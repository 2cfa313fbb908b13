-- The text of outgoing messages.
use Rattle.std.proofs.Common.{◌≡◌, ℕ, ℤ, pos, negsuc, false, IfOk, Result, Ok, Err, List, [], ◌∷◌, ◌++◌, codes, append_assoc, refl, ◌∙◌, ap}
use Rattle.std.specs.Fmt.{signed_decimal}
use Rattle.serde_json.specs.Data.{Data, string}
use Rattle.serde_json.specs.Find.{is_float, of_integer}
use Rattle.serde_json.specs.Written.{compact_text, has_float, number_text}
use Rattle.serde_json.proofs.OnLiterals.{serde_json_on_literals}
use Rattle.lsp_types.specs.declared.messages.Id.{Id}
use Rattle.lsp_types.specs.declared.messages.Id.TheVariants.{Number, Word, Null}
use Rattle.lsp_types.specs.declared.error_codes.ErrorCode.{ErrorCode}
use Rattle.lsp_types.specs.Bodies.{id_text, id_data, error_number, error_message, result_data, error_data, note_data, result_body, error_body, note_body}

number_printed : (z : ℤ) → number_text (of_integer z) ≡ signed_decimal z
number_printed (pos n) = refl
number_printed (negsuc n) = refl

whole : (z : ℤ) → is_float (of_integer z) ≡ false
whole (pos n) = refl
whole (negsuc n) = refl

id_printed : (id : Id) → compact_text (id_data id) ≡ id_text id
id_printed (Number z) = number_printed z
id_printed (Word word) = refl
id_printed Null = refl

id_whole : (id : Id) → has_float (id_data id) ≡ false
id_whole (Number z) = whole z
id_whole (Word word) = refl
id_whole Null = refl

result_printed : (id : Id) (x : Data) → compact_text (result_data id x) ≡ result_body id x
unfolding serde_json_on_literals
result_printed id x = rw (id_printed id) refl

result_whole : (id : Id) (x : Data) → has_float x ≡ false → has_float (result_data id x) ≡ false
result_whole id x h = rw (id_whole id, h) refl

note_printed : (method : List ℕ) (params : Data) → compact_text (note_data method params) ≡ note_body method params
unfolding serde_json_on_literals
note_printed method params = refl

note_whole : (method : List ℕ) (params : Data) → has_float params ≡ false → has_float (note_data method params) ≡ false
note_whole method params h = rw h refl

regroup : (a b c d : List ℕ) → (a ++ (b ++ (c ++ 125 ∷ []))) ++ d ≡ a ++ (b ++ (c ++ 125 ∷ d))
regroup a b c d = simp append_assoc

error_printed : (id : Id) (error : ErrorCode) → compact_text (error_data id error) ≡ error_body id error
unfolding serde_json_on_literals
error_printed id error =
    let number = signed_decimal (error_number error) in
    let message = compact_text (string (error_message error)) in
    let later = codes ",\"id\":" ++ (id_text id ++ codes ",\"jsonrpc\":\"2.0\"}") in
    rw (number_printed (error_number error), id_printed id)
    (ap (λ l. codes "{\"error\":{\"code\":" ++ l) (regroup number (codes ",\"message\":") message later))

error_whole : (id : Id) (error : ErrorCode) → has_float (error_data id error) ≡ false
error_whole id error = rw (whole (error_number error), id_whole id) refl

-- the bytes that were written of a value are those of its message
pub result_told : {E : Type 0} (r : Result (List ℕ) E) (body : Data) (id : Id) (x : Data) → body ≡ result_data id x → IfOk r (λ b. has_float body ≡ false → b ≡ compact_text body) → IfOk r (λ b. has_float x ≡ false → b ≡ result_body id x)
result_told (Ok b) body id x is told = λ h. told (ap has_float is ∙ result_whole id x h) ∙ ap compact_text is ∙ result_printed id x
result_told (Err e) body id x is told = tt

pub note_told : {E : Type 0} (r : Result (List ℕ) E) (body : Data) (method : List ℕ) (params : Data) → body ≡ note_data method params → IfOk r (λ b. has_float body ≡ false → b ≡ compact_text body) → IfOk r (λ b. has_float params ≡ false → b ≡ note_body method params)
note_told (Ok b) body method params is told = λ h. told (ap has_float is ∙ note_whole method params h) ∙ ap compact_text is ∙ note_printed method params
note_told (Err e) body method params is told = tt

pub error_told : {E : Type 0} (r : Result (List ℕ) E) (body : Data) (id : Id) (error : ErrorCode) → body ≡ error_data id error → IfOk r (λ b. has_float body ≡ false → b ≡ compact_text body) → IfOk r (λ b. b ≡ error_body id error)
error_told (Ok b) body id error is told = told (ap has_float is ∙ error_whole id error) ∙ ap compact_text is ∙ error_printed id error
error_told (Err e) body id error is told = tt

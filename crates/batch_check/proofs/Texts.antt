-- A file that is a text, and one that is none.
use Rattle.std.proofs.Common.{◌≡◌, ℕ, ◌≤◌, nat_lt, Bool, true, false, Option, None, Some, IfSome, IfOk, Result, Ok, List, length, refl, sym, ◌∙◌, ap, subst, arith}
use Rattle.std.proofs.lemmas.Bool.Decides.{nat_tests}
use Rattle.std.specs.Str.{IsUtf8, is_utf8}
use Rattle.std.proofs.lemmas.Str.{is_utf8-from_IsUtf8, IsUtf8-from_is_utf8}
use Rattle.base_core.specs.declared.mem_files.FileItem.{FileItem}
use Rattle.base_core.specs.declared.limits.TheConstants.{TEXT_LIMIT}
use Rattle.base_core.specs.Files.{file_at, IsReadOf}
use Rattle.doc_check.specs.declared.diagnostics.Report.{Report}
use Rattle.batch_check.specs.declared.outcomes.Outcome.{Outcome}
use Rattle.batch_check.specs.declared.outcomes.Outcome.TheVariants.{NotText}
use Rattle.batch_check.specs.Outcome.{text_outcome, bytes_outcome, file_outcome}

test_fails : (t : Bool) (bytes : List ℕ) → is_utf8 bytes ≡ t → (IsUtf8 bytes → ⊥) → is_utf8 bytes ≡ false
test_fails true bytes e nope = absurd (nope (IsUtf8-from_is_utf8 bytes e))
test_fails false bytes e nope = e

not_utf8 : (bytes : List ℕ) → (IsUtf8 bytes → ⊥) → is_utf8 bytes ≡ false
not_utf8 bytes nope = test_fails (is_utf8 bytes) bytes refl nope

-- bytes that are no UTF-8 are no text
pub not_text : (check : List ℕ → Report) (name bytes : List ℕ) → (IsUtf8 bytes → ⊥) → NotText ≡ bytes_outcome check name bytes
not_text check name bytes nope = rw (not_utf8 bytes nope) refl

-- bytes that are UTF-8 are a text
pub is_text : {E : Type 0} (check : List ℕ → Report) (name bytes text : List ℕ) (result : Result Outcome E) → text ≡ bytes → IsUtf8 bytes → IfOk result (λ outcome. outcome ≡ text_outcome check name text) → IfOk result (λ outcome. outcome ≡ bytes_outcome check name bytes)
is_text check name bytes text result same utf8 told =
    let is : bytes_outcome check name bytes ≡ text_outcome check name text = rw (is_utf8-from_IsUtf8 bytes utf8) (ap (text_outcome check name) (sym same)) in
    subst (λ o. IfOk result (λ outcome. outcome ≡ o)) (sym is) told

short : (bytes : List ℕ) → length bytes ≤ TEXT_LIMIT → nat_lt TEXT_LIMIT (length bytes) ≡ false
short bytes h = grind (arith, nat_tests)

-- a file was read
pub read_told : {E : Type 0} (check : List ℕ → Report) (content : Option (List FileItem)) (name bytes shown : List ℕ) (result : Result Outcome E) → IfSome content (λ listed. IsReadOf (file_at listed name) (Ok bytes)) → shown ≡ bytes → IfOk result (λ outcome. outcome ≡ bytes_outcome check name shown) → IfSome content (λ listed. IfOk result (λ outcome. outcome ≡ file_outcome check name (file_at listed name)))
read_told check None name bytes shown result read same told = tt
read_told check (Some listed) name bytes shown result read same told =
    let is : file_outcome check name (file_at listed name) ≡ bytes_outcome check name bytes =
    ap (file_outcome check name) read.0 ∙ (let small = short bytes read.1 in rw small refl) in
    subst (λ o. IfOk result (λ outcome. outcome ≡ o)) (ap (bytes_outcome check name) same ∙ sym is) told

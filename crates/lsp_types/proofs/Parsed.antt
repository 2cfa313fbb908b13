-- Which value a body is.
use Rattle.std.proofs.Common.{◌≡◌, ℕ, Bool, true, false, cond, Option, None, Some, List, refl}
use Rattle.std.specs.Str.{IsUtf8, is_utf8}
use Rattle.std.proofs.lemmas.Str.{IsUtf8-from_is_utf8, is_utf8-from_IsUtf8}
use Rattle.serde_json.specs.Data.{Data}
use Rattle.serde_json.specs.Read.{read}
use Rattle.lsp_types.specs.Decoding.{value_of}

pub value_told : (body : List ℕ) (d : Data) → IsUtf8 body → read body ≡ Some d → value_of body ≡ Some d
value_told body d text told = rw (is_utf8-from_IsUtf8 body text) told

none_where : (b : Bool) (found : Option Data) → (b ≡ true → found ≡ None) → cond b found None ≡ None
none_where true found told = told refl
none_where false found told = refl

pub value_none : (body : List ℕ) → (IsUtf8 body → read body ≡ None) → value_of body ≡ None
value_none body told = none_where (is_utf8 body) (read body) (λ t. told (IsUtf8-from_is_utf8 body t))

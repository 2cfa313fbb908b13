-- What makes a value a message, and which id it has (JSON-RPC 2.0).
use Rattle.std.specs.Prelude.{ℕ, ℤ, ◌&&◌, ◌||◌, Bool, false, not, if◌then◌else◌, List, codes, Option, None, Some, option_and_then, is_some}
use Rattle.std.specs.Str.{bytes_eq}
use Rattle.serde_json.specs.Data.{Data}
use Rattle.serde_json.specs.Find.{get, as_str, as_null, as_object}
use Rattle.lsp_types.specs.declared.messages.Id.{Id}
use Rattle.lsp_types.specs.declared.messages.Id.TheVariants.{Number, Word, Null}
use Rattle.lsp_types.specs.Members.{integer_of, text_at}

-- an object has a member of this name
abbrev pub has : List ℕ → Data → Bool
has name d = is_some (get name d)

-- a text is there, and it is this one
abbrev pub is_text : List ℕ → Option (List ℕ) → Bool
is_text wanted None = false
is_text wanted (Some text) = bytes_eq text wanted

-- an id of this text, or else of this number
abbrev pub id_from : Option (List ℕ) → Option ℤ → Option Id
id_from (Some word) _ = Some (Word word)
id_from None (Some number) = Some (Number number)
id_from None None = None

-- an id is a text or an integer
abbrev pub id_of : Data → Option Id
id_of d = id_from (as_str d) (integer_of d)

-- a message without a method may have null for its id
abbrev pub good_id : Bool → Data → Option Id
good_id with_method d = if not with_method && is_some (as_null d) then Some Null else id_of d

-- the id of a message, where it has one that is good
abbrev pub message_id : Data → Option Id
message_id d = option_and_then (good_id (has (codes "method") d)) (get (codes "id") d)

-- the method that a message names
abbrev pub method_of : Data → Option (List ℕ)
method_of d = text_at (codes "method") d

-- the version of JSON-RPC is 2.0
abbrev pub has_version : Data → Bool
has_version d = is_text (codes "2.0") (text_at (codes "jsonrpc") d)

-- it asks for something, or answers
abbrev pub has_purpose : Data → Bool
has_purpose d = has (codes "method") d || has (codes "result") d || has (codes "error") d

-- a method is a text
abbrev pub has_good_method : Data → Bool
has_good_method d = not (has (codes "method") d) || is_some (method_of d)

-- a message, its id aside, is an object with all of these
abbrev pub has_form : Data → Bool
has_form d = is_some (as_object d) && has_version d && has_purpose d && has_good_method d

-- an id is good, where there is one
abbrev pub is_good_or_absent : Data → Option Id → Bool
is_good_or_absent d good = not (has (codes "id") d) || is_some good

-- a value is a message
abbrev pub is_message : Data → Bool
is_message d = has_form d && is_good_or_absent d (message_id d)

-- In which units a client and a server count characters (LSP 3.17, "PositionEncodingKind").
use Rattle.std.specs.Prelude.{ℕ, Bool, true, false, if◌then◌else◌, List, codes, Option, None, Some, option_and_then, unwrap_or}
use Rattle.std.specs.Str.{bytes_eq}
use Rattle.serde_json.specs.Data.{Data, Items, no_items, item}
use Rattle.serde_json.specs.Find.{get, as_str, as_array}
use Rattle.lsp_types.specs.Members.{param}

-- whether a name decides for UTF-8, where it is one of those that are known
abbrev pub is_utf8_named : List ℕ → Option Bool
is_utf8_named name = if bytes_eq name (codes "utf-8") then Some true else (if bytes_eq name (codes "utf-16") then Some false else None)

-- what was found, or else what a name decides
abbrev pub or_named : Option Bool → List ℕ → Option Bool
or_named None name = is_utf8_named name
or_named (Some utf8) name = Some utf8

-- a name before others
abbrev pub is_utf8_before : Option (List ℕ) → Option Bool → Option Bool
is_utf8_before (Some name) (Some others) = Some (unwrap_or (is_utf8_named name) others)
is_utf8_before _ _ = None

-- the first name that is known decides, and UTF-16 where none is; no answer where one is no text
abbrev pub is_utf8_of : Items → Option Bool
is_utf8_of no_items = Some false
is_utf8_of (item d ds) = is_utf8_before (as_str d) (is_utf8_of ds)

-- the names that a client states, if any
abbrev pub stated_encodings : Data → Option Data
stated_encodings message = option_and_then (get (codes "positionEncodings")) (option_and_then (get (codes "general")) (param (codes "capabilities") message))

-- by the names that are stated: UTF-16 where there are none, and no answer where they are no list of texts
abbrev pub is_utf8_stated : Option Data → Option Bool
is_utf8_stated None = Some false
is_utf8_stated (Some names) = option_and_then is_utf8_of (as_array names)

-- whether a client asks for UTF-8
abbrev pub asks_utf8 : Data → Option Bool
asks_utf8 message = is_utf8_stated (stated_encodings message)

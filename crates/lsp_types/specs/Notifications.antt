-- What a notification tells.
use Rattle.std.specs.Prelude.{ℕ, ℤ, if◌then◌else◌, List, codes, Option, None, Some, option_and_then, option_map, unwrap_or}
use Rattle.std.specs.Str.{bytes_eq}
use Rattle.serde_json.specs.Data.{Data}
use Rattle.base_core.specs.declared.places.Change.{Change}
use Rattle.lsp_types.specs.declared.messages.Note.{Note}
use Rattle.lsp_types.specs.declared.messages.Note.TheVariants.{Initialized, Exit, Cancel, DidOpen, DidChange, DidClose, Grant, Trim, Other, BadNote}
use Rattle.lsp_types.specs.Members.{param, document_text, document_version, uinteger_of}
use Rattle.lsp_types.specs.Changes.{stated_changes}
use Rattle.lsp_types.specs.Envelope.{id_of}

-- an opening of this document, version and text
abbrev pub open_from : Option (List ℕ) → Option ℤ → Option (List ℕ) → Option Note
open_from (Some uri) (Some version) (Some text) = Some (DidOpen uri version text)
open_from _ _ _ = None

-- a document that was opened, with its text
abbrev pub did_open : Data → Option Note
did_open message = open_from (document_text (codes "uri") message) (document_version message) (document_text (codes "text") message)

-- a change of this document to this version
abbrev pub change_note_from : Option (List ℕ) → Option ℤ → Option (List Change) → Option Note
change_note_from (Some uri) (Some version) (Some changes) = Some (DidChange uri version changes)
change_note_from _ _ _ = None

-- edits of a document
abbrev pub did_change : Data → Option Note
did_change message = change_note_from (document_text (codes "uri") message) (document_version message) (stated_changes message)

-- a document that was closed
abbrev pub did_close : Data → Option Note
did_close message = option_map DidClose (document_text (codes "uri") message)

-- the request that isn't wanted any more
abbrev pub cancel : Data → Option Note
cancel message = option_map Cancel (option_and_then id_of (param (codes "id") message))

-- a grant of these units
abbrev pub grant_from : Option (List ℕ) → Option ℕ → Option Note
grant_from (Some uri) (Some units) = Some (Grant uri units)
grant_from _ _ = None

-- units of work for a document
abbrev pub grant : Data → Option Note
grant message = grant_from (document_text (codes "uri") message) (option_and_then uinteger_of (param (codes "units") message))

-- a known notification: its members are good, or it is a bad one
abbrev pub told : Option Note → Note
told found = unwrap_or found BadNote

-- a notification about a document
abbrev pub document_note : List ℕ → Data → Note
document_note name message =
    if bytes_eq name (codes "textDocument/didOpen") then told (did_open message) else
    (if bytes_eq name (codes "textDocument/didChange") then told (did_change message) else
    (if bytes_eq name (codes "textDocument/didClose") then told (did_close message) else
    (if bytes_eq name (codes "fleche/grant") then told (grant message) else
    Other)))

-- the notification of this method
abbrev pub note : List ℕ → Data → Note
note name message =
    if bytes_eq name (codes "initialized") then Initialized else
    (if bytes_eq name (codes "exit") then Exit else
    (if bytes_eq name (codes "fleche/trim") then Trim else
    (if bytes_eq name (codes "$/cancelRequest") then told (cancel message) else
    document_note name message)))

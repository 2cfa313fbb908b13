-- The notifications of a session, and its answer to `initialize` (LSP 3.17; `$/coq/fileProgress` after coq-lsp).
-- What is told of a text takes the positions of the text's offsets.
use Rattle.std.specs.Prelude.{ℕ, true, ℤ, List, [], ◌∷◌, codes, map}
use Rattle.serde_json.specs.Data.{Data, boolean, number, string, array, object, unsigned, member, no_members}
use Rattle.serde_json.specs.Find.{of_integer}
use Rattle.serde_json.specs.View.{items_of}
use Rattle.base_core.specs.declared.places.Position.{Position}
use Rattle.utf16_doc.specs.declared.encoding.Encoding.{Encoding}
use Rattle.utf16_doc.specs.declared.encoding.Encoding.TheVariants.{Utf8, Utf16}
use Rattle.doc_check.specs.declared.diagnostics.AbsDiag.{AbsDiag}
use Rattle.goals_query.specs.Places.{range_data, document_data}
use Rattle.lsp_types.specs.Bodies.{note_body}

-- what is still to be checked of a document: these ranges
abbrev pub progress_data : List Data → List ℕ → ℤ → Data
progress_data ranges uri version = object (member (codes "processing") (array (items_of ranges)) (member (codes "textDocument") (document_data uri version) no_members))

-- a range that is being checked
abbrev pub processing_data : Data → Data
processing_data range = object (member (codes "kind") (number (unsigned 1)) (member (codes "range") range no_members))

-- the text between two offsets is still to be checked
abbrev pub progress_body : (ℕ → Position) → List ℕ → ℤ → ℕ → ℕ → List ℕ
progress_body at uri version from to =
    note_body (codes "$/coq/fileProgress") (progress_data (processing_data (range_data at from to) ∷ []) uri version)

-- nothing is left to be checked
abbrev pub ended_body : List ℕ → ℤ → List ℕ
ended_body uri version = note_body (codes "$/coq/fileProgress") (progress_data [] uri version)

-- a diagnostic
abbrev pub diag_data : (ℕ → Position) → AbsDiag → Data
diag_data at diag =
    object (member (codes "code") (number (unsigned diag.code))
    (member (codes "message") (string diag.text)
    (member (codes "range") (range_data at diag.from diag.to)
    (member (codes "severity") (number (unsigned diag.severity))
    (member (codes "source") (string (codes "fleche")) no_members)))))

-- diagnostics of a version of a document
abbrev pub diags_data : (ℕ → Position) → List ℕ → ℤ → List AbsDiag → Data
diags_data at uri version diags =
    object (member (codes "diagnostics") (array (items_of (map (diag_data at) diags)))
    (member (codes "uri") (string uri)
    (member (codes "version") (number (of_integer version)) no_members)))

abbrev pub diags_body : (ℕ → Position) → List ℕ → ℤ → List AbsDiag → List ℕ
diags_body at uri version diags = note_body (codes "textDocument/publishDiagnostics") (diags_data at uri version diags)

-- an error in the client's log
abbrev pub log_data : List ℕ → Data
log_data text = object (member (codes "message") (string text) (member (codes "type") (number (unsigned 1)) no_members))

abbrev pub log_body : List ℕ → List ℕ
log_body text = note_body (codes "window/logMessage") (log_data text)

-- how texts are kept in step: by changes, and by notes of opening and closing
abbrev pub sync_data : Data
sync_data = object (member (codes "change") (number (unsigned 2)) (member (codes "openClose") (boolean true) no_members))

-- the name of what characters are counted in
abbrev pub encoding_name : Encoding → List ℕ
encoding_name Utf8 = codes "utf-8"
encoding_name Utf16 = codes "utf-16"

-- what the server offers
abbrev pub capabilities_data : Encoding → Data
capabilities_data encoding =
    object (member (codes "documentSymbolProvider") (boolean true)
    (member (codes "positionEncoding") (string (encoding_name encoding))
    (member (codes "textDocumentSync") sync_data no_members)))

abbrev pub server_data : Data
server_data = object (member (codes "name") (string (codes "fleche")) (member (codes "version") (string (codes "1")) no_members))

-- the answer to `initialize`
abbrev pub initialize_result : Encoding → Data
initialize_result encoding = object (member (codes "capabilities") (capabilities_data encoding) (member (codes "serverInfo") server_data no_members))

-- What a request asks for.
use Rattle.std.specs.Prelude.{ℕ, Bool, true, false, if◌then◌else◌, List, codes, Option, None, Some, option_and_then, option_map, Result, Ok, Err}
use Rattle.std.specs.Str.{bytes_eq}
use Rattle.serde_json.specs.Data.{Data}
use Rattle.serde_json.specs.Find.{as_str}
use Rattle.base_core.specs.declared.places.Position.{Position}
use Rattle.lsp_types.specs.declared.messages.Id.{Id}
use Rattle.lsp_types.specs.declared.messages.Call.{Call}
use Rattle.lsp_types.specs.declared.messages.Call.TheVariants.{Initialize, Shutdown, Symbols, Goals}
use Rattle.lsp_types.specs.declared.messages.Incoming.{Incoming}
use Rattle.lsp_types.specs.declared.messages.Incoming.TheVariants.{Request}
use Rattle.lsp_types.specs.declared.messages.DecodeFault.{DecodeFault}
use Rattle.lsp_types.specs.declared.messages.DecodeFault.TheVariants.{BadParams, UnknownMethod}
use Rattle.lsp_types.specs.Members.{param, document_text, position_of}
use Rattle.lsp_types.specs.Encodings.{asks_utf8}

-- the outline of the document that is named
abbrev pub symbols : Data → Option Call
symbols message = option_map Symbols (document_text (codes "uri") message)

-- whether a mode of this name asks for the state after the sentence
abbrev pub after_named : List ℕ → Option Bool
after_named name = if bytes_eq name (codes "After") then Some true else (if bytes_eq name (codes "Prev") then Some false else None)

-- a mode that isn't stated is `After`
abbrev pub after_of : Option Data → Option Bool
after_of None = Some true
after_of (Some d) = option_and_then after_named (as_str d)

-- the goals of this document, place and side
abbrev pub goals_from : Option (List ℕ) → Option Position → Option Bool → Option Call
goals_from (Some uri) (Some at) (Some after) = Some (Goals uri at after)
goals_from _ _ _ = None

-- the goals at a position of the document that is named
abbrev pub goals : Data → Option Call
goals message = goals_from (document_text (codes "uri") message) (option_and_then position_of (param (codes "position") message)) (after_of (param (codes "mode") message))

-- a known request: its members are good, or it is refused
abbrev pub asked : Id → Option Call → Result Incoming DecodeFault
asked id (Some call) = Ok (Request id call)
asked id None = Err (BadParams id false)

-- the beginning of a session, with its members good or bad
abbrev pub begun : Id → Option Bool → Result Incoming DecodeFault
begun id (Some utf8) = Ok (Request id (Initialize utf8))
begun id None = Err (BadParams id true)

-- the request of this method
abbrev pub request : List ℕ → Id → Data → Result Incoming DecodeFault
request name id message =
    if bytes_eq name (codes "initialize") then begun id (asks_utf8 message) else
    (if bytes_eq name (codes "shutdown") then Ok (Request id Shutdown) else
    (if bytes_eq name (codes "textDocument/documentSymbol") then asked id (symbols message) else
    (if bytes_eq name (codes "proof/goals") then asked id (goals message) else
    Err (UnknownMethod id))))

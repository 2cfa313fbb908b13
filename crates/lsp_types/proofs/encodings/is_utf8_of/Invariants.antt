use Rattle.std.proofs.Common.{◌≡◌, drop}
use Rattle.serde_json.specs.View.{items_view}
use Rattle.lsp_types.specs.Encodings.{is_utf8_of}
use Rattle.lsp_types.proofs.Named.{or_later}
use Rattle.lsp_types.proofs.encodings.is_utf8_of.Given as goal

abbrev pub invariant-loop-name : goal.invariant-loop-name
invariant-loop-name l = or_later l.found (is_utf8_of (items_view (drop l.name-index l.names.items))) ≡ is_utf8_of (items_view l.names.items)

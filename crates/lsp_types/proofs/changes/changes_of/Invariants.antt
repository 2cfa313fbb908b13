use Rattle.std.proofs.Common.{◌≡◌, ◌++◌, drop}
use Rattle.std.specs.Option.{option_map}
use Rattle.serde_json.specs.View.{items_view}
use Rattle.lsp_types.specs.Changes.{changes_of}
use Rattle.lsp_types.proofs.changes.changes_of.Given as goal

abbrev pub invariant-loop-edit : goal.invariant-loop-edit
invariant-loop-edit l = option_map (λ later. l.changes ++ later) (changes_of (items_view (drop l.edit-index l.edits.items))) ≡ changes_of (items_view l.edits.items)

use Rattle.std.proofs.Common.{◌≡◌, drop}
use Rattle.utf16_doc.specs.Edits.{changes_from}
use Rattle.utf16_doc.proofs.edits.changes_from.Given as goal

abbrev pub invariant-loop-change : goal.invariant-loop-change
invariant-loop-change l =
    changes_from l.encoding (record { text = l.text; first = l.first }) (drop l.change-index l.changes) ≡ changes_from l.encoding (record { text = l.fn.text; first = l.fn.first }) l.changes

use Rattle.std.proofs.Common.{subst}
use Rattle.std.specs.Str.{IsCharBoundary}
use Rattle.std.proofs.lemmas.Str.{IsCharBoundary-start}
use Rattle.utf16_doc.proofs.edits.change_in.Goals as goal

pub edit-requires-clause-starts : goal.edit-requires-clause-starts
edit-requires-clause-starts c = subst (λ t. IsCharBoundary t 0) c.as_str.ensures.text (IsCharBoundary-start c.as_str.result.now c.as_str.utf8)

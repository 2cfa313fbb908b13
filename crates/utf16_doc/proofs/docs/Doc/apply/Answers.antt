use Rattle.std.proofs.Common.{ℕ, List, refl, ap, ◌∙◌, length}
use Rattle.utf16_doc.specs.Indexed.{Document}
use Rattle.utf16_doc.proofs.Changing.{unchanged}
use Rattle.utf16_doc.proofs.docs.Doc.apply.Goals as goal

pub returns-in-empty-clause-changed : goal.returns-in-empty-clause-changed
returns-in-empty-clause-changed c =
    let text_of : Document → List ℕ = λ d. d.text in
    (unchanged c.args.self.now.encoding c.args.self.now.text c.args.changes.now _ _ c.as_slice.ensures c.in-empty.len_below (ap length (c.as_str-length.ensures.text ∙ ap text_of c.self.view_is)), refl)

use Rattle.std.proofs.Common.{ℕ, List, ◌∙◌, ap}
use Rattle.doc_check.specs.Check.{checked}
use Rattle.utf16_doc.specs.Indexed.{Document}
use Rattle.batch_check.proofs.Texts.{not_text, is_text}
use Rattle.batch_check.proofs.checks.check_bytes.Goals as goal

pub returns-in_default-clause-told : goal.returns-in_default-clause-told
returns-in_default-clause-told g c =
    let p = g.P.Prover in
    not_text (checked p.means) c.args.name.now c.args.bytes.now c.in_default.ensures.cases.0

pub returns-in-Ok-new-clause-told : goal.returns-in-Ok-new-clause-told
returns-in-Ok-new-clause-told g c =
    let p = g.P.Prover in
    let text_of : Document → List ℕ = λ d. d.text in
    is_text (checked p.means) c.args.name.now c.args.bytes.now _ _ (ap text_of c.in-Ok-new.ensures.text ∙ c.in-Ok.ensures.cases.0) c.in-Ok.ensures.cases.1 c.check_doc.ensures.told

use Rattle.doc_check.proofs.Telling.{told_read}
use Rattle.doc_check.proofs.reporting.told_of.Goals as goal

pub returns : goal.returns
returns g c = told_read (λ f. f.diags) c.args.finished.now c.args.place c.index-finished-place.result c.as_slice.result.now c.requires c.as_slice.ensures

use Rattle.std.proofs.Common.{◌++◌, string_bytes, refl, ◌∙◌, ap}
use Rattle.batch_check.specs.Reports.{diag_line, diag_lines}
use Rattle.batch_check.proofs.Lines.{lines_more}
use Rattle.batch_check.proofs.reports.add_diags.Goals as goal

pub loop-diag-preserved : goal.loop-diag-preserved
loop-diag-preserved c =
    let line = diag_line c.args.name.now c.args.doc.now.text in
    lines_more line (diag_lines c.args.name.now c.args.doc.now.text) (λ x xs. refl) c.args.diags.now c.loop-diag.diag-index c.diag-item.result _ _ _ c.loop-diag-test.true
    (c.in_ok-add_diag.ensures ∙ ap (λ x. string_bytes c.loop-diag.lines ++ line x) c.diag-item.is) c.loop-diag.invariant

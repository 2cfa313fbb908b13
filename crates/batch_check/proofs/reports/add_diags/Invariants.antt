use Rattle.std.proofs.Common.{◌≡◌, ◌++◌, drop, string_bytes}
use Rattle.batch_check.specs.Reports.{diag_lines}
use Rattle.batch_check.proofs.reports.add_diags.Given as goal

abbrev pub invariant-loop-diag : goal.invariant-loop-diag
invariant-loop-diag l = string_bytes l.lines ++ diag_lines l.name l.doc.text (drop l.diag-index l.diags) ≡ string_bytes l.initial.lines ++ diag_lines l.name l.doc.text l.diags

use Rattle.std.proofs.Common.{◌≡◌, take}
use Rattle.doc_check.specs.Check.{told}
use Rattle.doc_check.proofs.reporting.report_diags.Given as goal

abbrev pub invariant-loop-place : goal.invariant-loop-place
invariant-loop-place g l = l.diags ≡ told g.P.Prover.means g.P.Prover.means.first l.text (take l.place l.spans)

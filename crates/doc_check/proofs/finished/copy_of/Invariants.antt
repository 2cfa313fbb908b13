use Rattle.std.proofs.Common.{◌≡◌, ◌++◌, drop}
use Rattle.doc_check.proofs.finished.copy_of.Given as goal

abbrev pub invariant-loop-diag : goal.invariant-loop-diag
invariant-loop-diag l = l.list ++ drop l.diag-index l.diags ≡ l.diags

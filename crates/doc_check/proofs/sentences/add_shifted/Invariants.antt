use Rattle.std.proofs.Common.{◌≡◌, ◌++◌, drop, map}
use Rattle.doc_check.specs.Check.{shifted}
use Rattle.doc_check.proofs.sentences.add_shifted.Given as goal

abbrev pub invariant-loop-diag : goal.invariant-loop-diag
invariant-loop-diag l = l.diags ++ map (shifted l.by) (drop l.diag-index l.given) ≡ l.initial.diags ++ map (shifted l.by) l.given

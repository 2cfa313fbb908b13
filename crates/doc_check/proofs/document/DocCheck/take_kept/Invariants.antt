use Rattle.std.proofs.Common.{◌-◌}
use Rattle.doc_check.specs.Check.{count}
use Rattle.doc_check.specs.Document.{done}
use Rattle.doc_check.proofs.Taking.{IsUnder}
use Rattle.doc_check.proofs.document.DocCheck.take_kept.Given as goal

abbrev pub invariant-loop : goal.invariant-loop
invariant-loop g l = IsUnder g.P.Prover.meaning g.P.Prover.means l.fn.table l.table l.fn.self l.self

abbrev pub decreases-loop : goal.decreases-loop
decreases-loop g l = count l.self.text - done l.self

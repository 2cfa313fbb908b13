use Rattle.std.proofs.Common.{◌-◌}
use Rattle.doc_check.specs.Check.{count}
use Rattle.doc_check.specs.Document.{done}
use Rattle.sched_core.proofs.Spending.{IsUnderWay}
use Rattle.sched_core.proofs.open_document.OpenDocument.spend.Given as goal

abbrev pub invariant-loop-spent : goal.invariant-loop-spent
invariant-loop-spent g l = IsUnderWay g.P.Prover.meaning g.P.Prover.means l.units l.left l.fn.table l.table l.fn.self l.self l.fn.steps l.steps

abbrev pub decreases-loop-spent : goal.decreases-loop-spent
decreases-loop-spent g l = count l.self.check.text - done l.self.check

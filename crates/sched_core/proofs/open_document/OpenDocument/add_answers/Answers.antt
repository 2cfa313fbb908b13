use Rattle.doc_check.specs.Check.{views}
use Rattle.sched_core.specs.Waiting.{answer, is_ready_for}
use Rattle.sched_core.proofs.Lists.{those_more}
use Rattle.sched_core.proofs.open_document.OpenDocument.add_answers.Goals as goal

pub loop-request-preserved : goal.loop-request-preserved
loop-request-preserved g c =
    those_more (is_ready_for c.args.self.now) (answer (views g.P.Prover.means) c.args.self.now) c.args.waiting.now c.loop-request.request-index c.request-item.result c.loop-request.bodies c.add_answer.new.bodies _
    c.loop-request-test.true c.request-item.is c.in_ok-add_answer.ensures c.loop-request.invariant

use Rattle.lsp_types.specs.Bodies.{error_body}
use Rattle.sched_core.specs.Waiting.{chooses}
use Rattle.sched_core.proofs.Lists.{those_more}
use Rattle.sched_core.proofs.waiting.add_refusals.Goals as goal

pub loop-request-preserved : goal.loop-request-preserved
loop-request-preserved c =
    those_more (chooses c.args.choice.now) (λ w. error_body w.id c.args.code) c.args.waiting.now c.loop-request.request-index c.request-item.result c.loop-request.bodies c.add_refusal.new.bodies _
    c.loop-request-test.true c.request-item.is c.in_ok-add_refusal.ensures c.loop-request.invariant

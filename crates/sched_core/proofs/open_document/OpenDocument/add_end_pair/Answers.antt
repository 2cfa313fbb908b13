use Rattle.sched_core.proofs.Answering.{pair_added}
use Rattle.sched_core.proofs.open_document.OpenDocument.add_end_pair.Goals as goal

pub returns : goal.returns
returns g c =
    pair_added c.push-2.result c.args.bodies.now c.push.new.self c.push-2.new.self c.in_ok-ended.field-0 _ _ _
    c.in_ok-push.ensures c.push-2.ensures c.in_ok-ended.ensures c.in_ok-diags.ensures

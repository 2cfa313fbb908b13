use Rattle.utf16_doc.specs.Indexed.{position_in}
use Rattle.sched_core.proofs.Lists.{diags_more}
use Rattle.sched_core.proofs.bodies.diag_values.Goals as goal

pub loop-diag-preserved : goal.loop-diag-preserved
loop-diag-preserved c =
    diags_more (position_in c.args.doc.now) c.args.diags.now c.loop-diag.diag-index c.diag-item.result c.loop-diag.values.items c.push.new.self.items c.in_ok-diag_value.field-0
    c.loop-diag-test.true c.diag-item.is c.in_ok-push.ensures.items c.in_ok-diag_value.ensures c.loop-diag.invariant

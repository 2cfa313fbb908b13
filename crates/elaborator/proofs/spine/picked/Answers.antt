use Rattle.std.proofs.Common.{rules}
use Rattle.elaborator.proofs.LoopLaws.{picked_next}
use Rattle.elaborator.proofs.spine.picked.Goals as goal

pub loop-k-preserved : goal.loop-k-preserved
loop-k-preserved c =
    picked_next c.args.values.now c.args.order.now c.loop-k.k-index c.loop-k.terms c.in_ok-terms.terms _ c.loop-k-test.true c.loop-k.invariant (search rules)

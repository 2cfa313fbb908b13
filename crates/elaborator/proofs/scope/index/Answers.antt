use Rattle.std.proofs.Common.{rules}
use Rattle.elaborator.proofs.LoopLaws.{index_next}
use Rattle.elaborator.proofs.scope.index.Goals as goal

pub loop-before-preserved : goal.loop-before-preserved
loop-before-preserved c =
    index_next c.loop-before.places c.in_ok-places.places c.args.ctx.now c.len-count.result c.loop-before.before c.in-Some.hyp.now c.in_ok-share.field-0
    c.len-count.ensures.count c.loop-before-test.true c.loop-before.invariant (search rules) (search rules) c.in_ok-places.ensures.values

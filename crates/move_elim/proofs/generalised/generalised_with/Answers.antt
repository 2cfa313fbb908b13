use Rattle.std.proofs.Common.{arith}
use Rattle.move_elim.proofs.ContextLoops.{marked_before}
use Rattle.move_elim.proofs.generalised.generalised_with.Goals as goal

pub loop-at-preserved : goal.loop-at-preserved
loop-at-preserved c =
    marked_before c.args.taken.now c.args.ctx.now c.loop-at.at c.in-Some.hyp.now c.loop-at.marked c.in_ok-marked.marked (grind (arith, c.loop-at-test.true))
    c.loop-at.invariant.1 c.in-Some.ensures.hyp c.loop-at.invariant.0 c.in_ok-marked.ensures

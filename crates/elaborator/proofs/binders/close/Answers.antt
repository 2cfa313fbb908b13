use Rattle.std.proofs.Common.{rules}
use Rattle.elaborator.proofs.LoopLaws.{close_next, close_none}
use Rattle.elaborator.proofs.binders.close.Goals as goal

pub returns-in_default : goal.returns-in_default
returns-in_default c = close_none c.args.binding _ c.loop-i.i c.args.inner.now c.loop-i.body _ (search rules) c.loop-i.invariant

pub loop-i-preserved : goal.loop-i-preserved
loop-i-preserved c =
    close_next c.args.binding c.args.count c.loop-i.i c.args.inner.now c.in-Some.hyp.now c.loop-i.body c.in-Ok.next _ (search rules)
    c.loop-i-test.true c.loop-i.invariant (search rules)

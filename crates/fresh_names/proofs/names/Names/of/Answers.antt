use Rattle.std.proofs.Common.{rules, arith}
use Rattle.fresh_names.proofs.ShownNames.{one_name_more}
use Rattle.fresh_names.proofs.names.Names.of.Goals as goal

pub loop-at-preserved : goal.loop-at-preserved
loop-at-preserved c =
    one_name_more c.args.ctx.now c.loop-at.names c.in_ok-names.names c.loop-at.at c.in-Some.hyp.now (grind (arith, c.loop-at-test.true))
    c.loop-at.invariant.1 c.in-Some.ensures.hyp c.loop-at.invariant.0 (search rules)

use Rattle.std.proofs.Common.{rules, arith}
use Rattle.vernac_exec.proofs.HypLists.{shown_stands, one_hyp_shown}
use Rattle.vernac_exec.proofs.views.hyp_views.Goals as goal

pub extend-requires : goal.extend-requires
extend-requires c =
    shown_stands c.args.ctx.now c.loop-at.older c.loop-at.at c.in-Some.hyp.now (grind (arith, c.loop-at-test.true))
    c.in-Some.ensures.hyp c.in-Some.ensures.context c.loop-at.invariant.0

pub loop-at-preserved : goal.loop-at-preserved
loop-at-preserved c =
    one_hyp_shown c.args.env.now c.args.ctx.now c.loop-at.older c.in_ok-older.older c.loop-at.views c.add_hyp.new.views c.loop-at.at
    c.in-Some.hyp.now (grind (arith, c.loop-at-test.true)) c.in-Some.ensures.hyp c.loop-at.invariant.0 c.loop-at.invariant.1
    (search rules) (search rules) c.loop-at.invariant.2

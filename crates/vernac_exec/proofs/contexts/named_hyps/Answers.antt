use Rattle.std.proofs.Common.{rules, arith}
use Rattle.vernac_exec.proofs.HypLists.{named_stands, one_hyp_more}
use Rattle.vernac_exec.proofs.contexts.named_hyps.Goals as goal

pub extend-requires : goal.extend-requires
extend-requires c =
    named_stands c.args.env.now c.args.inner.now c.loop-at.hyps c.loop-at.at c.in-Some.hyp.now (grind (arith, c.loop-at-test.true))
    c.in-Some.ensures.hyp c.in-Some.ensures.context c.loop-at.invariant.0

pub loop-at-preserved : goal.loop-at-preserved
loop-at-preserved c =
    one_hyp_more c.args.env.now c.args.inner.now c.loop-at.hyps c.in_ok-hyps.hyps c.loop-at.names c.in_ok-names.names c.loop-at.at
    c.in-Some.hyp.now c.in_ok-name.name (grind (arith, c.loop-at-test.true)) c.in-Some.ensures.hyp c.loop-at.invariant.0
    c.loop-at.invariant.1 (search rules) (search rules) (search rules) c.loop-at.invariant.2

use Rattle.std.proofs.Common.{◌∙◌, sym, arith}
use Rattle.move_elim.proofs.ContextLoops.{mentioned_here, mentioned_on, mentioned_end, mentioned_none}
use Rattle.move_elim.proofs.generalised.is_mentioned.Goals as goal

pub returns-in-None : goal.returns-in-None
returns-in-None c = mentioned_none _ c.loop-at.at c.args.i _ c.in-None.ensures.hyp c.loop-at.invariant

pub returns-then-hyp_mentions : goal.returns-then-hyp_mentions
returns-then-hyp_mentions c =
    mentioned_here _ c.loop-at.at c.in-Some.hyp.now c.args.i _ c.in-Some.ensures.hyp (grind (arith, c.loop-at-test.true))
    (sym c.hyp_mentions.ensures ∙ c.if-hyp_mentions.true) c.loop-at.invariant

pub loop-at-preserved : goal.loop-at-preserved
loop-at-preserved c =
    mentioned_on _ c.loop-at.at c.in-Some.hyp.now c.args.i _ c.in-Some.ensures.hyp (grind (arith, c.loop-at-test.true))
    (sym c.hyp_mentions.ensures ∙ c.if-hyp_mentions.false) c.loop-at.invariant

pub returns : goal.returns
returns c = mentioned_end _ c.loop-at.at c.args.i _ (grind (arith, c.loop-at-test.false)) c.loop-at.invariant

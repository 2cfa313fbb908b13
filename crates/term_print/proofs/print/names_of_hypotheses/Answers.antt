use Rattle.std.proofs.Common.{rules}
use Rattle.term_print.specs.Show.{hyp_names}
use Rattle.term_print.proofs.NameLaws.{next_hypothesis}
use Rattle.term_print.proofs.print.names_of_hypotheses.Goals as goal

pub loop-i-preserved : goal.loop-i-preserved
loop-i-preserved c =
    next_hypothesis c.args.ctx.now c.loop-i.i c.in-Some.hyp.now c.in_ok-share.field-0 c.loop-i.scope c.in_ok-scope.scope (hyp_names c.args.ctx.now)
    (search rules) (search rules) c.loop-i.invariant (search rules)

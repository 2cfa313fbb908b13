use Rattle.std.proofs.Common.{◌-◌, arith}
use Rattle.std.proofs.lemmas.Result.{err_from_is_err_and}
use Rattle.inductive_check.proofs.PartLaws.{over_stop, over_part}
use Rattle.inductive_check.proofs.parts.products_over.Goals as goal

pub returns-in_err-whole : goal.returns-in_err-whole
returns-in_err-whole c =
    let p = err_from_is_err_and c.from_residual.result c.from_residual.ensures.1 in
    rw (p.1, p.2) (over_stop _ (c.loop-at.at - 1) c.args.params.now c.args.end _
    (over_part c.loop-at.at c.args.params.now c.index-params-at.result c.args.end c.loop-at.whole (grind arith) c.loop-at.invariant.within c.index-params-at.is c.loop-at.invariant.made)
    c.in_err-whole.ensures)

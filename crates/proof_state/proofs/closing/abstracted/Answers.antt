use Rattle.std.proofs.Common.{sym}
use Rattle.proof_state.specs.Steps.{abstracted}
use Rattle.proof_state.proofs.Closes.{abstracted_next, abstracted_ends, made_is}
use Rattle.proof_state.proofs.closing.abstracted.Goals as goal

pub returns-in-Err : goal.returns-in-Err
returns-in-Err c =
    abstracted_ends c.args.hyps.now c.loop-i.i c.in-Some.hyp.now c.loop-i.term (abstracted c.args.hyps.now c.args.body) c.in-Err.stop (sym c.in-Some.ensures.hyp) c.in-Err.ensures c.loop-i.invariant

pub loop-i-preserved : goal.loop-i-preserved
loop-i-preserved c =
    abstracted_next c.args.hyps.now c.loop-i.i c.in-Some.hyp.now c.loop-i.term c.in-Ok.over (abstracted c.args.hyps.now c.args.body)
    (sym c.in-Some.ensures.hyp) (made_is _ _ c.in-Ok.ensures) c.loop-i.invariant

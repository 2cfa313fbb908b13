use Rattle.std.proofs.Common.{arith, ◌≤◌, ◌∙◌}
use Rattle.proof_state.proofs.Counts.{numbers_next}
use Rattle.proof_state.proofs.state.numbers.Goals as goal

pub loop-n-preserved : goal.loop-n-preserved
loop-n-preserved c =
    let low : c.args.from ≤ c.loop-n.n = omega arith in
    c.in_ok-push.ensures ∙ numbers_next c.args.from c.loop-n.n c.loop-n.all low c.loop-n.invariant

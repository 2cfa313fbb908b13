use Rattle.std.proofs.Common.{rules}
use Rattle.sched_core.proofs.Settled.{holds_begun}
use Rattle.sched_core.proofs.sched.Sched.new.Goals as goal

pub invariant_of-result : goal.invariant_of-result
invariant_of-result g c =
    holds_begun g.P.Prover.meaning g.P.Prover.means c.in_ok-table.table c.in_ok-first.first _
    c.in_ok-first.ensures.first c.in_ok-table.ensures (search rules)

use Rattle.sched_core.proofs.Kept.{holds_removed}
use Rattle.sched_core.proofs.sched.Sched.forget.Goals as goal

pub invariant_of-self : goal.invariant_of-self
invariant_of-self g c =
    holds_removed g.P.Prover.meaning g.P.Prover.means c.self.inside.table c.self.inside.documents.items c.remove-document.new.self.items c.args.place
    c.self.invariant c.remove-document.ensures.items

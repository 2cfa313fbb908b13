use Rattle.sched_core.proofs.Kept.{holds_push}
use Rattle.sched_core.proofs.sched.Sched.keep.Goals as goal

pub invariant_of-self-2 : goal.invariant_of-self-2
invariant_of-self-2 g c =
    holds_push g.P.Prover.meaning g.P.Prover.means c.self.inside.table c.self.inside.documents.items c.push.new.self.items c.args.document
    c.self.invariant c.requires.short c.requires.none c.in_ok-push.ensures.items

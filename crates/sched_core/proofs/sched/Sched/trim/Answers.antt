use Rattle.std.proofs.Common.{refl, rules}
use Rattle.sched_core.proofs.Kept.{holds_trimmed, trim_shown}
use Rattle.sched_core.proofs.sched.Sched.trim.Goals as goal

pub invariant_of-self : goal.invariant_of-self
invariant_of-self g c =
    holds_trimmed g.P.Prover.meaning g.P.Prover.means c.self.inside.table c.trim.new.self c.self.inside.documents.items _ c.trim.result
    c.self.invariant c.trim.ensures.trimmed c.trim.ensures.unchanged

pub returns : goal.returns
returns g c =
    trim_shown c.self.inside.table c.trim.new.self _ c.args.self.now _ c.trim.result c.self.view_is refl (search rules) c.trim.ensures.trimmed

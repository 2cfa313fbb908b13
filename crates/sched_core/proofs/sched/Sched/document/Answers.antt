use Rattle.std.proofs.Common.{ap}
use Rattle.sched_core.proofs.Made.{seen_at}
use Rattle.sched_core.proofs.sched.Sched.document.Goals as goal

pub returns : goal.returns
returns g c = seen_at c.self.inside.documents.items c.args.self.now.documents c.args.place c.index.result.now (ap (λ s. s.documents) c.self.view_is) c.requires c.index.ensures

use Rattle.doc_check.specs.Check.{views}
use Rattle.sched_core.proofs.Settled.{settle_adds}
use Rattle.sched_core.proofs.sched.Sched.settle.Goals as goal

pub returns : goal.returns
returns g c =
    settle_adds (views g.P.Prover.means) c.args.self.now c.take_kept_at.new.self c.args.place c.args.bodies.now c.add_status_at.new.bodies c.add_status_at.result
    c.in_ok-take_kept_at.ensures c.add_status_at.ensures

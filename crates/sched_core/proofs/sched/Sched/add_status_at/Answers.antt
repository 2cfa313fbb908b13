use Rattle.std.proofs.Common.{◌≡◌, ◌++◌, OnOk, subst}
use Rattle.doc_check.specs.Check.{views}
use Rattle.sched_core.specs.Documents.{status_bodies}
use Rattle.sched_core.proofs.sched.Sched.add_status_at.Goals as goal

pub returns : goal.returns
returns g c =
    subst (λ d. OnOk c.add_status.result (c.add_status.new.bodies ≡ c.args.bodies.now ++ status_bodies (views g.P.Prover.means) d)) c.document.ensures c.add_status.ensures

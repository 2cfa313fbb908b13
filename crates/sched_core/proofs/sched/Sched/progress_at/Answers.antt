use Rattle.std.proofs.Common.{◌≡◌, IfOk, subst}
use Rattle.doc_check.specs.Check.{views}
use Rattle.sched_core.specs.Work.{progress_since}
use Rattle.sched_core.proofs.sched.Sched.progress_at.Goals as goal

pub returns : goal.returns
returns g c =
    subst (λ d. IfOk c.progress_since.result (λ bodies. bodies ≡ progress_since (views g.P.Prover.means) c.args.before d)) c.document.ensures c.progress_since.ensures

use Rattle.doc_check.specs.Check.{views}
use Rattle.sched_core.proofs.Made.{idles_made}
use Rattle.sched_core.proofs.sched.Sched.step.Goals as goal

pub returns-clause-idles : goal.returns-clause-idles
returns-clause-idles g c =
    idles_made (views g.P.Prover.means) c.args.self.now c.args.event c.take.result c.take.new.self c.documents-documents.ensures.short c.take.ensures.made

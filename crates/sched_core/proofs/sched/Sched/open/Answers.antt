use Rattle.std.proofs.Common.{rules}
use Rattle.doc_check.specs.Check.{views}
use Rattle.sched_core.specs.Session.{unchecked}
use Rattle.sched_core.proofs.Made.{open_made}
use Rattle.sched_core.proofs.sched.Sched.open.Goals as goal

pub returns-in-Ok : goal.returns-in-Ok
returns-in-Ok g c =
    open_made (views g.P.Prover.means) c.args.self.now c.args.uri c.args.version c.args.text (unchecked c.args.uri _ c.in-Ok.doc.encoding c.args.text) c.open_text.result c.open_text.new.self
    (search rules) (search rules) (search rules) (search rules) c.open_text.ensures

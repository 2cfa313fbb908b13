use Rattle.std.proofs.Common.{rules}
use Rattle.doc_check.specs.Check.{views}
use Rattle.sched_core.proofs.Made.{text_made}
use Rattle.sched_core.proofs.sched.Sched.open_text.Goals as goal

pub returns : goal.returns
returns g c =
    text_made (views g.P.Prover.means) c.args.self.now c.args.uri c.args.version c.args.doc.encoding c.args.text c.new.result c.add.result c.add.new.self
    (search rules) c.add.ensures

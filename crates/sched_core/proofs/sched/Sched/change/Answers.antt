use Rattle.std.proofs.Common.{rules}
use Rattle.doc_check.specs.Check.{views}
use Rattle.sched_core.proofs.Made.{known_made}
use Rattle.sched_core.proofs.sched.Sched.change.Goals as goal

pub returns-in-Some : goal.returns-in-Some
returns-in-Some g c =
    known_made (views g.P.Prover.means) c.args.self.now c.args.uri.now c.args.version _ c.args.changes.now c.in-Some.place c.change_at.result c.change_at.new.self
    (search rules) (search rules) c.change_at.ensures

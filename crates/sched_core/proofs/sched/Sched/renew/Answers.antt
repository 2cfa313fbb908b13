use Rattle.std.proofs.Common.{rules}
use Rattle.doc_check.specs.Check.{views}
use Rattle.sched_core.proofs.Made.{renew_made}
use Rattle.sched_core.proofs.sched.Sched.renew.Goals as goal

pub returns : goal.returns
returns g c =
    renew_made (views g.P.Prover.means) c.args.self.now c.outdate_at.new.self c.begin_again.new.self c.args.place c.args.version _ c.args.new.doc.text c.new-bodies.result c.outdate_at.new.bodies c.begin_again.new.bodies
    c.in_ok-outdate_at.field-0 c.in_ok-begin_again.field-0 c.written.result (search rules) c.new-bodies.ensures c.in_ok-outdate_at.ensures c.in_ok-begin_again.ensures c.written.ensures.bodies c.written.ensures.exit

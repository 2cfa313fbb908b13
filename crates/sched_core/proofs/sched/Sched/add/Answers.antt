use Rattle.std.proofs.Common.{length, rules}
use Rattle.doc_check.specs.Check.{views}
use Rattle.sched_core.proofs.Made.{add_made}
use Rattle.sched_core.proofs.sched.Sched.add.Goals as goal

pub returns : goal.returns
returns g c =
    add_made (views g.P.Prover.means) c.args.self.now c.keep.new.self c.settle.new.self (length c.documents-place.result.now) c.args.document c.new-bodies.result c.settle.new.bodies c.in_ok-settle.field-0 c.written.result
    (search rules) (search rules) c.new-bodies.ensures c.in_ok-settle.ensures c.written.ensures.bodies c.written.ensures.exit

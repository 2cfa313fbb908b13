use Rattle.std.proofs.Common.{rules}
use Rattle.doc_check.specs.Check.{views}
use Rattle.sched_core.proofs.Made.{begun_adds}
use Rattle.sched_core.proofs.sched.Sched.begin_again.Goals as goal

pub returns : goal.returns
returns g c =
    begun_adds (views g.P.Prover.means) c.args.self.now c.restart.new.self c.settle.new.self c.args.place c.args.version c.args.new.doc.encoding c.args.new.doc.text c.args.bodies.now c.settle.new.bodies c.settle.result
    c.requires.same (search rules) c.settle.ensures

use Rattle.std.proofs.Common.{rules}
use Rattle.doc_check.specs.Check.{views}
use Rattle.sched_core.proofs.Made.{grant_made}
use Rattle.sched_core.proofs.sched.Sched.grant_at.Goals as goal

pub returns-clause-made : goal.returns-clause-made
returns-clause-made g c =
    grant_made (views g.P.Prover.means) c.args.self.now c.spend_at.new.self c.answer_ready.new.self c.args.units c.args.place c.done-before.result c.in_ok-bodies.bodies c.answer_ready.new.bodies c.in_ok-answer_ready.field-0 c.written.result
    (search rules) (search rules) (search rules) c.in_ok-bodies.ensures c.in_ok-answer_ready.ensures c.written.ensures.bodies c.written.ensures.exit

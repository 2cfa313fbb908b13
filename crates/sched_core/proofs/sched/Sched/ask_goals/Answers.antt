use Rattle.std.proofs.Common.{rules}
use Rattle.doc_check.specs.Check.{views}
use Rattle.sched_core.proofs.Answering.{ask_goals_made}
use Rattle.sched_core.proofs.sched.Sched.ask_goals.Goals as goal

pub returns : goal.returns
returns g c =
    ask_goals_made (views g.P.Prover.means) c.args.self.now c.args.id c.args.uri c.args.at c.args.after c.in-Some.place c.wanted_at-sentences.result c.ask_at.result c.ask_at.new.self
    (search rules) (search rules) c.ask_at.ensures

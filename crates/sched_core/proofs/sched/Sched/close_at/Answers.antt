use Rattle.sched_core.proofs.Made.{close_made}
use Rattle.sched_core.proofs.sched.Sched.close_at.Goals as goal

pub returns : goal.returns
returns g c =
    close_made c.args.self.now c.outdate_at.new.self c.take_away.new.self c.args.place c.new-bodies.result c.outdate_at.new.bodies c.take_away.new.bodies
    c.in_ok-outdate_at.field-0 c.in_ok-take_away.field-0 c.written.result c.new-bodies.ensures c.in_ok-outdate_at.ensures c.in_ok-take_away.ensures c.written.ensures.bodies c.written.ensures.exit

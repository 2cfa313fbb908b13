use Rattle.std.proofs.Common.{refl}
use Rattle.move_compute.proofs.FiringLaws.{fired_may}
use Rattle.move_compute.proofs.firing.fire.Goals as goal

pub case_on-requires-clause-values : goal.case_on-requires-clause-values
case_on-requires-clause-values c =
    fired_may c.args.call.now c.args.chosen.now c.args.case c.args.args.now c.args.rest c.empty.result c.in_ok-values.values c.args.chosen.now.marks
    c.in_ok-values.ensures c.empty.ensures refl c.args.vars c.requires c.len-count.ensures.small c.depth-depth.ensures.term

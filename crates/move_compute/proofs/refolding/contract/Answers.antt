use Rattle.std.proofs.Common.{◌≤◌, arith}
use Rattle.cic_rules.specs.Fuel.{left}
use Rattle.move_compute.specs.Refold.{own_eliminator, refolded}
use Rattle.move_compute.proofs.RefoldingLaws.{goes_on}
use Rattle.move_compute.proofs.refolding.contract.Goals as goal

pub returns-in-Ok-clause-paid : goal.returns-in-Ok-clause-paid
returns-in-Ok-clause-paid c =
    let enough : 2 ≤ left c.args.fuel.now = grind arith in
    goes_on (left c.args.fuel.now) (left c.spend.new.self) c.in-Ok.next (own_eliminator c.args.refold.now c.args.spine.now.head c.args.spine.now.args)
    (refolded c.args.refold.now c.args.spine.now.head c.args.spine.now.args c.args.chosen.now) enough c.spend.ensures.left c.in-Ok.ensures

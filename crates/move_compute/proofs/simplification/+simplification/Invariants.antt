use Rattle.std.specs.Prelude.{◌+◌, ◌*◌}
use Rattle.cic_rules.specs.Fuel.{calls_left}
use Rattle.move_compute.proofs.simplification.+simplification.Given as goal

abbrev pub decreases-simpl : goal.decreases-simpl
decreases-simpl l = calls_left l.fuel.now * 10

abbrev pub decreases-charged : goal.decreases-charged
decreases-charged l = calls_left l.fuel.now * 10 + 9

abbrev pub decreases-by_parts : goal.decreases-by_parts
decreases-by_parts l = calls_left l.fuel.now * 10 + 8

abbrev pub decreases-two_parts : goal.decreases-two_parts
decreases-two_parts l = calls_left l.fuel.now * 10 + 7

use Rattle.std.specs.Prelude.{length, ◌-◌}
use Rattle.move_compute.proofs.cases.+applied_from.Given as goal

abbrev pub decreases-applied_from : goal.decreases-applied_from
decreases-applied_from l = length l.values.now - l.at

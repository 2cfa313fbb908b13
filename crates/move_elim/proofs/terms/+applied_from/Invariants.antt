use Rattle.std.proofs.Common.{◌-◌, length}
use Rattle.move_elim.proofs.terms.+applied_from.Given as goal

abbrev pub decreases-applied_from : goal.decreases-applied_from
decreases-applied_from l = length l.args.now - l.at

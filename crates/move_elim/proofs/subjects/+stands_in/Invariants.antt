use Rattle.std.proofs.Common.{◌-◌, length}
use Rattle.move_elim.proofs.subjects.+stands_in.Given as goal

abbrev pub decreases-stands_in : goal.decreases-stands_in
decreases-stands_in l = length l.terms.now - l.at

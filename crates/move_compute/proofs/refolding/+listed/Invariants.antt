use Rattle.std.specs.Prelude.{length}
use Rattle.move_compute.proofs.refolding.+listed.Given as goal

abbrev pub decreases-listed : goal.decreases-listed
decreases-listed l = length l.args.now

use Rattle.std.specs.Prelude.{length}
use Rattle.move_elim.proofs.instances.+index_values.Given as goal

abbrev pub decreases-index_values : goal.decreases-index_values
decreases-index_values l = length l.places.now

use Rattle.std.specs.Prelude.{length}
use Rattle.inductive_check.proofs.entries.+add_eliminators.Given as goal

abbrev pub decreases-add_eliminators : goal.decreases-add_eliminators
decreases-add_eliminators l = length l.sorts.now

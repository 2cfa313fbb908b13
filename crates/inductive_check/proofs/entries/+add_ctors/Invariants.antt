use Rattle.std.specs.Prelude.{length}
use Rattle.inductive_check.proofs.entries.+add_ctors.Given as goal

abbrev pub decreases-add_ctors : goal.decreases-add_ctors
decreases-add_ctors l = length l.ctors.now

use Rattle.std.specs.Prelude.{length}
use Rattle.inductive_check.proofs.entries.+param_names.Given as goal

abbrev pub decreases-param_names : goal.decreases-param_names
decreases-param_names l = length l.params.now

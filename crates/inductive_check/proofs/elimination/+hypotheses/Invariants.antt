use Rattle.std.proofs.Common.{◌+◌, ◌*◌}
use Rattle.core_term.specs.Tree.{size_of}
use Rattle.inductive_check.proofs.elimination.+hypotheses.Given as goal

abbrev pub decreases-hypothesis : goal.decreases-hypothesis
decreases-hypothesis l = 2 * size_of l.ty.now

abbrev pub decreases-hypothesis_over : goal.decreases-hypothesis_over
decreases-hypothesis_over l = 2 * size_of l.b.now + 1

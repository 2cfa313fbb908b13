use Rattle.std.proofs.Common.{◌+◌, ◌*◌}
use Rattle.core_term.specs.Tree.{size_of}
use Rattle.inductive_check.proofs.elimination.+conclusions.Given as goal

abbrev pub decreases-conclusion : goal.decreases-conclusion
decreases-conclusion l = 2 * size_of l.arity.now

abbrev pub decreases-conclusion_over : goal.decreases-conclusion_over
decreases-conclusion_over l = 2 * size_of l.b.now + 1

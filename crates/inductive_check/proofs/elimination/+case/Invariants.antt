use Rattle.std.proofs.Common.{◌+◌, ◌*◌}
use Rattle.core_term.specs.Tree.{size_of}
use Rattle.inductive_check.proofs.elimination.+case.Given as goal

abbrev pub decreases-case_type : goal.decreases-case_type
decreases-case_type l = 2 * size_of l.ty.now

abbrev pub decreases-plain_case : goal.decreases-plain_case
decreases-plain_case l = 2 * size_of l.b.now + 1

abbrev pub decreases-recursive_case : goal.decreases-recursive_case
decreases-recursive_case l = 2 * size_of l.b.now + 1

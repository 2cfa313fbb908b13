use Rattle.core_term.specs.Tree.{depth_of}
use Rattle.conversion.proofs.cases.+recursive_call.Given as goal

abbrev pub decreases-recursive_call : goal.decreases-recursive_call
decreases-recursive_call l = depth_of l.ty.now

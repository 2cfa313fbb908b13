use Rattle.core_term.specs.Tree.{depth_of}
use Rattle.move_compute.proofs.cases.+call_on.Given as goal

abbrev pub decreases-call_on : goal.decreases-call_on
decreases-call_on l = depth_of l.ty.now

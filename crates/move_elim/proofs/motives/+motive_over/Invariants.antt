use Rattle.core_term.specs.Tree.{size_of}
use Rattle.move_elim.proofs.motives.+motive_over.Given as goal

abbrev pub decreases-motive_over : goal.decreases-motive_over
decreases-motive_over l = size_of l.arity.now

use Rattle.std.proofs.Common.{◌+◌, ◌*◌}
use Rattle.core_term.specs.Tree.{size_of}
use Rattle.move_elim.proofs.instances.+products.Given as goal

abbrev pub decreases-hypothesis : goal.decreases-hypothesis
decreases-hypothesis l = 2 * size_of l.t.now

abbrev pub decreases-over_product : goal.decreases-over_product
decreases-over_product l = 2 * size_of l.codomain.now + 1

use Rattle.std.proofs.Common.{◌+◌, ◌*◌}
use Rattle.core_term.specs.Tree.{depth_of}
use Rattle.move_rewrite.proofs.replacing.+new_variables.Given as goal

abbrev pub decreases-abstracted : goal.decreases-abstracted
decreases-abstracted l = 2 * depth_of l.t.now + 1

abbrev pub decreases-abstracted_parts : goal.decreases-abstracted_parts
decreases-abstracted_parts l = 2 * depth_of l.t.now

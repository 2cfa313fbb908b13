use Rattle.std.proofs.Common.{◌≡◌, ◌≤◌, drop, length}
use Rattle.move_elim.specs.Generalised.{marked_from}
use Rattle.move_elim.proofs.generalised.generalised_with.Given as goal

abbrev pub invariant-loop-at : goal.invariant-loop-at
invariant-loop-at l = (l.marked ≡ marked_from l.taken l.at (drop l.at l.ctx)) × (l.at ≤ length l.ctx)

abbrev pub decreases-loop-at : goal.decreases-loop-at
decreases-loop-at l = l.at

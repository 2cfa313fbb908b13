use Rattle.std.proofs.Common.{◌≡◌, ◌≤◌, drop, length}
use Rattle.fresh_names.specs.Shown.{shown_names}
use Rattle.fresh_names.proofs.names.Names.of.Given as goal

abbrev pub invariant-loop-at : goal.invariant-loop-at
invariant-loop-at l = (l.names ≡ shown_names (drop l.at l.ctx)) × (l.at ≤ length l.ctx)

abbrev pub decreases-loop-at : goal.decreases-loop-at
decreases-loop-at l = l.at

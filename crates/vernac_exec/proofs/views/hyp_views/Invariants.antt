use Rattle.std.proofs.Common.{◌≡◌, ◌≤◌, drop, length}
use Rattle.vernac_exec.specs.Views.{hyp_views}
use Rattle.vernac_exec.proofs.views.hyp_views.Given as goal

abbrev pub invariant-loop-at : goal.invariant-loop-at
invariant-loop-at l = (l.older ≡ drop l.at l.ctx) × (l.views ≡ hyp_views l.env (drop l.at l.ctx)) × (l.at ≤ length l.ctx)

abbrev pub decreases-loop-at : goal.decreases-loop-at
decreases-loop-at l = l.at

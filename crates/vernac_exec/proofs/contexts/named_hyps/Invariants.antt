use Rattle.std.proofs.Common.{◌≡◌, ◌≤◌, drop, length}
use Rattle.fresh_names.specs.Shown.{shown_names}
use Rattle.vernac_exec.specs.Commands.{named_hyps}
use Rattle.vernac_exec.proofs.contexts.named_hyps.Given as goal

abbrev pub invariant-loop-at : goal.invariant-loop-at
invariant-loop-at l = (l.hyps ≡ named_hyps l.env (drop l.at l.inner)) × (l.names ≡ shown_names l.hyps) × (l.at ≤ length l.inner)

abbrev pub decreases-loop-at : goal.decreases-loop-at
decreases-loop-at l = l.at

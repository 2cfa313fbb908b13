use Rattle.std.proofs.Common.{◌≡◌, ◌+◌, drop}
use Rattle.std.specs.List.{position_or_len}
use Rattle.sched_core.specs.Waiting.{same_id}
use Rattle.sched_core.proofs.waiting.place_of_id.Given as goal

abbrev pub invariant-loop-place : goal.invariant-loop-place
invariant-loop-place l = position_or_len (λ w. same_id w.id l.id) l.waiting ≡ l.place + position_or_len (λ w. same_id w.id l.id) (drop l.place l.waiting)

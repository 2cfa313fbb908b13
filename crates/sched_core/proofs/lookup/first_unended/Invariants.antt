use Rattle.std.proofs.Common.{◌≡◌, ◌+◌, not, drop}
use Rattle.std.specs.List.{position_or_len}
use Rattle.doc_check.specs.Document.{all_done}
use Rattle.sched_core.proofs.lookup.first_unended.Given as goal

abbrev pub invariant-loop-place : goal.invariant-loop-place
invariant-loop-place g l = position_or_len (λ document. not (all_done document.check)) l.documents ≡ l.place + position_or_len (λ document. not (all_done document.check)) (drop l.place l.documents)

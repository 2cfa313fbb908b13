use Rattle.std.proofs.Common.{◌≡◌, ◌+◌, drop}
use Rattle.std.specs.List.{position_or_len}
use Rattle.std.specs.Str.{bytes_eq}
use Rattle.sched_core.proofs.lookup.place_of.Given as goal

abbrev pub invariant-loop-place : goal.invariant-loop-place
invariant-loop-place g l = position_or_len (λ document. bytes_eq document.uri l.uri) l.documents ≡ l.place + position_or_len (λ document. bytes_eq document.uri l.uri) (drop l.place l.documents)

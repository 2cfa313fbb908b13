use Rattle.std.proofs.Common.{◌≡◌, ◌-◌, ◌≤◌, length, take}
use Rattle.base_core.specs.Sink.{appended}
use Rattle.batch_check.proofs.writing.write_whole.Given as goal

abbrev pub invariant-loop-at : goal.invariant-loop-at
invariant-loop-at g l =
    (l.at ≤ length l.bytes) × (g.S.Sink.written l.out ≡ appended (g.S.Sink.written l.initial.out) (take l.at l.bytes))
    × (g.S.Sink.faults l.initial.out ≤ g.S.Sink.faults l.out)

abbrev pub decreases-loop-at : goal.decreases-loop-at
decreases-loop-at g l = length l.bytes - l.at

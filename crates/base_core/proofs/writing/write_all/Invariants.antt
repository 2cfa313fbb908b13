use Rattle.std.proofs.Common.{◌≡◌, ◌-◌, ◌≤◌, length, take}
use Rattle.base_core.specs.Sink.{appended}
use Rattle.base_core.proofs.writing.write_all.Given as goal

abbrev pub invariant-loop-at : goal.invariant-loop-at
invariant-loop-at g l = record {
  within : l.at ≤ length l.bytes;
  told : g.S.Sink.written l.out ≡ appended (g.S.Sink.written l.initial.out) (take l.at l.bytes);
  calm : g.S.Sink.faults l.out ≡ g.S.Sink.faults l.initial.out;
}

abbrev pub decreases-loop-at : goal.decreases-loop-at
decreases-loop-at g l = length l.bytes - l.at

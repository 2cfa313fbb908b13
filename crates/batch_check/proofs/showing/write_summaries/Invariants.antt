use Rattle.std.proofs.Common.{◌≡◌, map, take}
use Rattle.base_core.specs.Sink.{appended}
use Rattle.batch_check.specs.Reports.{joined}
use Rattle.batch_check.proofs.showing.write_summaries.Given as goal

abbrev pub invariant-loop-i : goal.invariant-loop-i
invariant-loop-i g l =
    (g.S.Sink.written l.out
    ≡ appended (g.S.Sink.written l.initial.out) (joined (map g.O.Observer.told (take l.i l.watch.items))))
    × (g.S.Sink.faults l.out ≡ g.S.Sink.faults l.initial.out)

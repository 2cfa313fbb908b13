use Rattle.std.proofs.Common.{◌≡◌, length}
use Rattle.memo_table.proofs.Turning.{IsTrimming}
use Rattle.memo_table.proofs.slots.Slots.retain.Given as goal

abbrev pub invariant-loop-turn : goal.invariant-loop-turn
invariant-loop-turn g l = (l._turn-end ≡ length l.initial.self) × IsTrimming l.hold.keys l.initial.self l.self l._turn

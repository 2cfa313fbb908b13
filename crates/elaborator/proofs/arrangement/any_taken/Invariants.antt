use Rattle.std.proofs.Common.{◌≡◌, drop}
use Rattle.elaborator.specs.Arrangement.{any_taken}
use Rattle.elaborator.proofs.arrangement.any_taken.Given as goal

abbrev pub invariant-loop-seat : goal.invariant-loop-seat
invariant-loop-seat l = any_taken (drop l.seat-index l.seats) ≡ any_taken l.seats

use Rattle.std.proofs.Common.{◌≡◌, ◌≤◌, min, drop}
use Rattle.rpc_frames.specs.Fields.{number_after}
use Rattle.rpc_frames.proofs.fields.capped_number.Given as goal

abbrev pub invariant-loop-digit : goal.invariant-loop-digit
invariant-loop-digit l = record {
  capped : l.number ≤ 4194305;
  same : min (number_after l.number (drop l.digit-index l.digits)) 4194305 ≡ min (number_after 0 l.digits) 4194305;
}

use Rattle.std.proofs.Common.{length, ◌-◌}
use Rattle.rpc_frames.specs.Stages.{IsScan}
use Rattle.rpc_frames.proofs.header.read_header.Given as goal

abbrev pub invariant-loop-next : goal.invariant-loop-next
invariant-loop-next l = IsScan l.scan l.bytes

abbrev pub decreases-loop-next : goal.decreases-loop-next
decreases-loop-next l = length l.bytes - l.scan.line

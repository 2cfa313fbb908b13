use Rattle.std.proofs.Common.{Ok, take}
use Rattle.std.specs.List.{flat_map}
use Rattle.rpc_frames.specs.Frames.{framed}
use Rattle.base_core.specs.Writes.{Writes}
use Rattle.lsp_session.proofs.write.write_bodies.Given as goal

abbrev pub invariant-loop-body : goal.invariant-loop-body
invariant-loop-body g l = Writes {T = Unit {0}} g.S.Sink.written g.S.Sink.faults l.initial.out l.out (Ok tt) (flat_map framed (take l.body-index l.bodies))

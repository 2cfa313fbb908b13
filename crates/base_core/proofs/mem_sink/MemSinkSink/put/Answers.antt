use Rattle.std.proofs.Common.{◌≡◌, ◌++◌, ◌<◌, Some, take, length, ap, arith}
use Rattle.std.proofs.lemmas.Grind.{common_steps}
use Rattle.base_core.proofs.mem_sink.MemSinkSink.put.Goals as goal

pub returns-clause-told : goal.returns-clause-told
returns-clause-told c =
    let grown : c.extend_from_slice.new.self.items ≡ c.args.self.now.bytes.items ++ take c.min-taken.result c.args.piece.now = grind (arith, common_steps, c.in-Ok.ensures.items) in
    let some : 0 < length c.args.piece.now = c.requires in
    (omega (arith, some, c.if-room-eq0.false, c.min-taken.ensures), omega arith, ap Some grown)

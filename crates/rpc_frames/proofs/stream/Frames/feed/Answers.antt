use Rattle.rpc_frames.proofs.StageLemmas.{fed_stage}
use Rattle.rpc_frames.proofs.stream.Frames.feed.Goals as goal

pub invariant_of-self-2 : goal.invariant_of-self-2
invariant_of-self-2 c =
    fed_stage c.self.inside.start c.self.inside.stage c.self.inside.buffer.items c.args.piece.now c.extend_from_slice.new.self.items
    c.self.invariant.0 c.self.invariant.1 c.in_ok-extend_from_slice.ensures.items

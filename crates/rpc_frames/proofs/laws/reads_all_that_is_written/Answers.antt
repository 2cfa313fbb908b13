use Rattle.rpc_frames.proofs.WriteLemmas.{frames_framed}
use Rattle.rpc_frames.proofs.laws.reads_all_that_is_written.Goals as goal

pub returns : goal.returns
returns c = frames_framed

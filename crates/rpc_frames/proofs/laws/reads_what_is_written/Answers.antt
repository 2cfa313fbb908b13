use Rattle.rpc_frames.proofs.WriteLemmas.{front_framed}
use Rattle.rpc_frames.proofs.laws.reads_what_is_written.Goals as goal

pub returns : goal.returns
returns c = front_framed

use Rattle.rpc_frames.proofs.StreamLemmas.{frames_pieces}
use Rattle.rpc_frames.proofs.laws.any_cut.Goals as goal

pub returns : goal.returns
returns c = frames_pieces

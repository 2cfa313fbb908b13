use Rattle.rpc_frames.proofs.StreamLemmas.{held_more}
use Rattle.rpc_frames.proofs.laws.piece_after_piece.Goals as goal

pub returns : goal.returns
returns c = held_more

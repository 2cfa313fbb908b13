use Rattle.rpc_frames.proofs.GrammarLemmas.{frame_spelled, spelled_frame}
use Rattle.rpc_frames.proofs.laws.a_frame_is_what_is_spelled_so.Goals as goal

pub returns : goal.returns
returns c = record { read = frame_spelled; spelled = spelled_frame }

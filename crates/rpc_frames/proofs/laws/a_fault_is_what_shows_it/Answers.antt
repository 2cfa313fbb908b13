use Rattle.rpc_frames.proofs.FaultLemmas.{fault_shown, shown_fault}
use Rattle.rpc_frames.proofs.laws.a_fault_is_what_shows_it.Goals as goal

pub returns : goal.returns
returns c = record { read = fault_shown; shown = shown_fault }

use Rattle.vernac_exec.proofs.SoundStates.{states_are_sound}
use Rattle.vernac_exec.proofs.soundness.law_of_soundness.Goals as goal

pub returns : goal.returns
returns c = states_are_sound

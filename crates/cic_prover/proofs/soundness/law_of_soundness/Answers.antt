use Rattle.cic_prover.proofs.SoundDocuments.{documents_are_sound}
use Rattle.cic_prover.proofs.soundness.law_of_soundness.Goals as goal

pub returns : goal.returns
returns c = documents_are_sound

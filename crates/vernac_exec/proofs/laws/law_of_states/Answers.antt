use Rattle.vernac_exec.proofs.HeldProofs.{sentences_keep_proofs}
use Rattle.vernac_exec.proofs.StateLaws.{sentences_keep_states}
use Rattle.vernac_exec.proofs.laws.law_of_states.Goals as goal

pub returns-clause-states : goal.returns-clause-states
returns-clause-states c = sentences_keep_states

pub returns-clause-proofs : goal.returns-clause-proofs
returns-clause-proofs c = sentences_keep_proofs

use Rattle.vernac_exec.proofs.ProverLaws.{diags_are_placed, rows_are_past, proofs_are_past}
use Rattle.vernac_exec.proofs.prover_laws.law_of_prover.Goals as goal

pub returns-clause-placed : goal.returns-clause-placed
returns-clause-placed c = diags_are_placed

pub returns-clause-declared : goal.returns-clause-declared
returns-clause-declared c = rows_are_past

pub returns-clause-opened : goal.returns-clause-opened
returns-clause-opened c = proofs_are_past

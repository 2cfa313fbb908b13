use Rattle.cic_soundness.proofs.DeclareSound.{declare_keeps_form}
use Rattle.cic_soundness.proofs.GroundedSound.{entries_are_grounded}
use Rattle.cic_soundness.proofs.laws.law_of_declarations.Goals as goal

pub returns-clause-environments : goal.returns-clause-environments
returns-clause-environments c = declare_keeps_form

pub returns-clause-entries : goal.returns-clause-entries
returns-clause-entries c = entries_are_grounded

use Rattle.utf16_doc.proofs.Characters.{units_are_bytes, one_unit, two_units}
use Rattle.utf16_doc.proofs.laws.law_of_units.Goals as goal

pub returns-clause-bytes : goal.returns-clause-bytes
returns-clause-bytes c = λ x. units_are_bytes x

pub returns-clause-one : goal.returns-clause-one
returns-clause-one c = λ x low. one_unit x low

pub returns-clause-two : goal.returns-clause-two
returns-clause-two c = λ x high. two_units x high

use Rattle.elaborator.proofs.FuelOfElab.{fuel_of_elaboration, fuel_of_groups}
use Rattle.elaborator.proofs.laws.law_of_fuel.Goals as goal

pub returns-clause-terms : goal.returns-clause-terms
returns-clause-terms c = fuel_of_elaboration

pub returns-clause-groups : goal.returns-clause-groups
returns-clause-groups c = fuel_of_groups

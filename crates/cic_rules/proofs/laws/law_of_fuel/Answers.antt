use Rattle.cic_rules.proofs.JudgeFuelLaws.{fuel_of_reduction, fuel_of_conversion}
use Rattle.cic_rules.proofs.InferFuelLaws.{fuel_of_inference, fuel_of_sorts, fuel_of_checks, fuel_of_declarations}
use Rattle.cic_rules.proofs.laws.law_of_fuel.Goals as goal

pub returns-clause-reduction : goal.returns-clause-reduction
returns-clause-reduction c = fuel_of_reduction

pub returns-clause-conversion : goal.returns-clause-conversion
returns-clause-conversion c = fuel_of_conversion

pub returns-clause-inference : goal.returns-clause-inference
returns-clause-inference c = fuel_of_inference

pub returns-clause-sorts : goal.returns-clause-sorts
returns-clause-sorts c = fuel_of_sorts

pub returns-clause-checks : goal.returns-clause-checks
returns-clause-checks c = fuel_of_checks

pub returns-clause-declarations : goal.returns-clause-declarations
returns-clause-declarations c = fuel_of_declarations

use Rattle.matching.proofs.FuelOfMatch.{fuel_of_match}
use Rattle.matching.proofs.laws.law_of_fuel.Goals as goal

pub returns : goal.returns
returns c = fuel_of_match

use Rattle.vernac_exec.proofs.FuelOfExec.{fuel_of_sentences}
use Rattle.vernac_exec.proofs.UnitLaws.{costs_are_bounded, one_run_decides}
use Rattle.vernac_exec.proofs.laws.law_of_units.Goals as goal

pub returns-clause-fuel : goal.returns-clause-fuel
returns-clause-fuel c = fuel_of_sentences

pub returns-clause-costs : goal.returns-clause-costs
returns-clause-costs c = costs_are_bounded

pub returns-clause-decided : goal.returns-clause-decided
returns-clause-decided c = one_run_decides

use Rattle.memo_table.proofs.Standing.{number_stands, number_is_held, state_stands, entry_stands}
use Rattle.memo_table.proofs.laws.law_of_entries.Goals as goal

pub returns-clause-number : goal.returns-clause-number
returns-clause-number g c = number_stands g.P.Prover.meaning g.P.Prover.means

pub returns-clause-held : goal.returns-clause-held
returns-clause-held g c = number_is_held

pub returns-clause-state : goal.returns-clause-state
returns-clause-state g c = state_stands g.P.Prover.meaning g.P.Prover.means

pub returns-clause-entry : goal.returns-clause-entry
returns-clause-entry g c = entry_stands g.P.Prover.meaning g.P.Prover.means

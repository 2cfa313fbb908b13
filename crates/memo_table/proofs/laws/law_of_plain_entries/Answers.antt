use Rattle.memo_table.proofs.Plain.{plain_number, plain_touched, plain_entered, plain_trimmed}
use Rattle.memo_table.proofs.laws.law_of_plain_entries.Goals as goal

pub returns-clause-number : goal.returns-clause-number
returns-clause-number g c = plain_number _

pub returns-clause-touched : goal.returns-clause-touched
returns-clause-touched g c = plain_touched _

pub returns-clause-entered : goal.returns-clause-entered
returns-clause-entered g c = plain_entered _

pub returns-clause-trimmed : goal.returns-clause-trimmed
returns-clause-trimmed g c = plain_trimmed _

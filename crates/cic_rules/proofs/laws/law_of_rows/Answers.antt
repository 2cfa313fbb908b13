use Rattle.cic_rules.proofs.RowLaws.{rows_are_sorted}
use Rattle.cic_rules.proofs.laws.law_of_rows.Goals as goal

pub returns : goal.returns
returns c = rows_are_sorted

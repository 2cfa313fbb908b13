use Rattle.inductive_check.proofs.RowLaws.{confined_many}
use Rattle.inductive_check.proofs.sorts.is_confined.Goals as goal

pub returns-in-len2-up : goal.returns-in-len2-up
returns-in-len2-up c = confined_many c.args.sort c.args.rows.now c.in-PropSort.is c.in-len2-up.len_at_least

use Rattle.std.proofs.Common.{length}
use Rattle.inductive_check.proofs.sorts.+are_props.Given as goal

abbrev pub decreases-are_props : goal.decreases-are_props
decreases-are_props l = length l.row.now

use Rattle.matching.proofs.Lowerings.{lowers_undo_lifts}
use Rattle.matching.proofs.ValuesKept.{matches_extend}
use Rattle.matching.proofs.ValuesSet.{matches_settle}
use Rattle.matching.proofs.laws.law_of_values.Goals as goal

pub returns-clause-lowered : goal.returns-clause-lowered
returns-clause-lowered c = lowers_undo_lifts

pub returns-clause-kept : goal.returns-clause-kept
returns-clause-kept c = matches_extend

pub returns-clause-settled : goal.returns-clause-settled
returns-clause-settled c = matches_settle

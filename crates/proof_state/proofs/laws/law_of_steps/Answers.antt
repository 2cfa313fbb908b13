use Rattle.proof_state.proofs.Keeps.{steps_keep, steps_keep_goals, steps_close_goals, whole_where_solved, may_be_filled}
use Rattle.proof_state.proofs.laws.law_of_steps.Goals as goal

pub returns-clause-proofs : goal.returns-clause-proofs
returns-clause-proofs c = steps_keep

pub returns-clause-goals : goal.returns-clause-goals
returns-clause-goals c = steps_keep_goals

pub returns-clause-closed : goal.returns-clause-closed
returns-clause-closed c = steps_close_goals

pub returns-clause-whole : goal.returns-clause-whole
returns-clause-whole c = whole_where_solved

pub returns-clause-filled : goal.returns-clause-filled
returns-clause-filled c = may_be_filled

use Rattle.std.proofs.Common.{sym}
use Rattle.proof_state.proofs.States.{no_status, goal_in_result}
use Rattle.proof_state.proofs.state.Table.goal.Goals as goal

pub returns-in-Some-clause-goal : goal.returns-in-Some-clause-goal
returns-in-Some-clause-goal c = goal_in_result c.args.self.now c.args.n c.in-Some.part.now c.goal.result c.requires (sym c.in-Some.ensures) c.goal.ensures

pub returns-in-None-clause-found : goal.returns-in-None-clause-found
returns-in-None-clause-found c = no_status c.args.self.now.parts c.args.n c.in-None.ensures

use Rattle.std.proofs.Common.{sym}
use Rattle.proof_state.proofs.States.{none_unsolved, unsolved_in_result}
use Rattle.proof_state.proofs.state.Table.unsolved.Goals as goal

pub returns-in-Some-clause-goal : goal.returns-in-Some-clause-goal
returns-in-Some-clause-goal c =
    unsolved_in_result c.args.self.now c.args.n c.in-Some.part.now c.unsolved.result c.requires (sym c.in-Some.ensures) c.unsolved.ensures

pub returns-in-None-clause-found : goal.returns-in-None-clause-found
returns-in-None-clause-found c = none_unsolved c.args.self.now.parts c.args.n c.in-None.ensures

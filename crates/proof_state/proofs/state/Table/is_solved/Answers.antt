use Rattle.proof_state.proofs.Closes.{all_solved, solved_whole}
use Rattle.proof_state.proofs.state.Table.is_solved.Goals as goal

pub returns : goal.returns
returns c = (
  λ yes. solved_whole c.args.self.now c.requires (c.are_solved.ensures.0 yes),
  λ none. c.are_solved.ensures.1 (all_solved c.args.self.now c.requires none),
)

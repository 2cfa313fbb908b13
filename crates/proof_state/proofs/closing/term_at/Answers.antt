use Rattle.proof_state.proofs.Closes.{term_none}
use Rattle.proof_state.proofs.closing.term_at.Goals as goal

pub returns-in-None : goal.returns-in-None
returns-in-None c = term_none c.args.terms.now c.args.at c.in-None.ensures

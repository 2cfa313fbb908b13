use Rattle.std.proofs.Common.{sym, ◌∙◌}
use Rattle.proof_state.proofs.Closes.{all_solved, close_some, close_none}
use Rattle.proof_state.proofs.state.Table.close.Goals as goal

pub whole-requires-clause-solved : goal.whole-requires-clause-solved
whole-requires-clause-solved c = all_solved c.args.self.now c.requires.kept c.requires.whole

pub returns-in-Some : goal.returns-in-Some
returns-in-Some c =
    close_some c.args.self.now c.in-Some.body c.abstracted.result c.requires.kept c.requires.whole (sym c.in-Some.is ∙ c.in_ok-body.ensures)
    c.abstracted.ensures

pub returns-in-None : goal.returns-in-None
returns-in-None c = close_none c.args.self.now c.requires.kept c.requires.whole (sym c.in-None.is ∙ c.in_ok-body.ensures)

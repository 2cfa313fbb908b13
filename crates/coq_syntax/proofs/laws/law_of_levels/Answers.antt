use Rattle.std.proofs.Common.{[]}
use Rattle.coq_syntax.proofs.LevelLaws.{term_levels, command_levels, move_levels}
use Rattle.coq_syntax.proofs.laws.law_of_levels.Goals as goal

pub returns-clause-terms : goal.returns-clause-terms
returns-clause-terms c = λ t e. term_levels t [] e

pub returns-clause-commands : goal.returns-clause-commands
returns-clause-commands c = command_levels

pub returns-clause-moves : goal.returns-clause-moves
returns-clause-moves c = move_levels

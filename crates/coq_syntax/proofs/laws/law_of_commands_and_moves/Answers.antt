use Rattle.coq_syntax.proofs.FirstWords.{commands_begin, moves_begin}
use Rattle.coq_syntax.proofs.laws.law_of_commands_and_moves.Goals as goal

pub returns-clause-commands : goal.returns-clause-commands
returns-clause-commands c = commands_begin

pub returns-clause-moves : goal.returns-clause-moves
returns-clause-moves c = moves_begin

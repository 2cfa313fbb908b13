use Rattle.move_parser.proofs.MoveLaw.{moves_meet}
use Rattle.move_parser.proofs.laws.law_of_moves.Goals as goal

pub returns : goal.returns
returns c = moves_meet

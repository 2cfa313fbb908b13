use Rattle.move_parser.proofs.Told.{one_move_answer}
use Rattle.move_parser.proofs.laws.one_move_answer.Goals as goal

pub returns : goal.returns
returns c = one_move_answer

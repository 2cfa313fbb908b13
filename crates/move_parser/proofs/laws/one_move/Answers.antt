-- The law is proved in `OneMove`.
use Rattle.move_parser.proofs.OneMove as one
use Rattle.move_parser.proofs.laws.one_move.Goals as goal

pub returns : goal.returns
returns c = one.one_move

-- The law is proved in `OneAnswer`.
use Rattle.vernac_parser.proofs.OneAnswer as one
use Rattle.vernac_parser.proofs.laws.one_command_answer.Goals as goal

pub returns : goal.returns
returns c = one.one_command_answer

-- The law is proved in `CommandAnswering`.
use Rattle.vernac_parser.proofs.CommandAnswering.{answers_meet}
use Rattle.vernac_parser.proofs.laws.law_of_commands.Goals as goal

pub returns : goal.returns
returns c = answers_meet

-- The law is proved in `CommandComplete`.
use Rattle.vernac_parser.proofs.CommandComplete as complete
use Rattle.vernac_parser.proofs.laws.one_command.Goals as goal

pub returns : goal.returns
returns c = complete.one_command

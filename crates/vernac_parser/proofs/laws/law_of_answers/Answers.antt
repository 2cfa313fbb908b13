-- The law is proved in `Answering`.
use Rattle.vernac_parser.proofs.Answering.{answers_meet}
use Rattle.vernac_parser.proofs.laws.law_of_answers.Goals as goal

pub returns : goal.returns
returns c = answers_meet

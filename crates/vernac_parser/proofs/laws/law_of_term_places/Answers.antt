use Rattle.vernac_parser.proofs.Told.{term_place}
use Rattle.vernac_parser.proofs.laws.law_of_term_places.Goals as goal

pub returns : goal.returns
returns c = term_place

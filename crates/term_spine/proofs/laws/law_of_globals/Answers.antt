use Rattle.term_spine.proofs.Places.{places_ascend, places_has}
use Rattle.term_spine.proofs.laws.law_of_globals.Goals as goal

pub returns : goal.returns
returns c = record { ascend = places_ascend; has = places_has }

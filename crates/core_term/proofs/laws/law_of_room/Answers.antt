use Rattle.core_term.proofs.Substitutions.{substituted-room}
use Rattle.core_term.proofs.laws.law_of_room.Goals as goal

pub returns : goal.returns
returns c = substituted-room

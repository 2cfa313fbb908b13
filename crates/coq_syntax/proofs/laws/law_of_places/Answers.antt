use Rattle.coq_syntax.specs.Commands.{IsCommandOf, command_fault}
use Rattle.coq_syntax.specs.Moves.{IsMoveOf, move_fault}
use Rattle.coq_syntax.proofs.Told.{refused_place}
use Rattle.coq_syntax.proofs.laws.law_of_places.Goals as goal

pub returns-clause-commands : goal.returns-clause-commands
returns-clause-commands c = λ l r h. refused_place IsCommandOf command_fault l r h

pub returns-clause-moves : goal.returns-clause-moves
returns-clause-moves c = λ l r h. refused_place IsMoveOf move_fault l r h

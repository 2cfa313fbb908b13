-- The function of a token list gives it an answer.
use Rattle.std.specs.Prelude.{List}
use Rattle.coq_syntax.specs.declared.token.Token.{Token}
use Rattle.coq_syntax.specs.Moves.{IsMoveOf, move_fault}
use Rattle.coq_syntax.specs.MeetsWhole.{IsWholeAnswer}
use Rattle.move_parser.specs.WholeMove.{whole_move}

abbrev pub MoveAnswersMeet : Type 0
MoveAnswersMeet = (tokens : List Token) → IsWholeAnswer IsMoveOf move_fault tokens (whole_move tokens)

-- The rules that the code follows give every token list an answer.
use Rattle.std.specs.Prelude.{List}
use Rattle.coq_syntax.specs.declared.token.Token.{Token}
use Rattle.coq_syntax.specs.Commands.{IsCommandOf, command_fault}
use Rattle.vernac_parser.specs.Parse.{whole_term}
use Rattle.vernac_parser.specs.ParseCommand.{whole_command}
use Rattle.coq_syntax.specs.Meets.{IsAnswer}
use Rattle.coq_syntax.specs.MeetsWhole.{IsWholeAnswer}

-- those of terms
abbrev pub AnswersMeet : Type 0
AnswersMeet = (tokens : List Token) → IsAnswer tokens (whole_term tokens)

-- those of commands
abbrev pub CommandAnswersMeet : Type 0
CommandAnswersMeet = (tokens : List Token) → IsWholeAnswer IsCommandOf command_fault tokens (whole_command tokens)

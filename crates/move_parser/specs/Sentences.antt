-- What a sentence's tokens are read as: a command where the first is the word of one, and else a proof move.
use Rattle.std.specs.Prelude.{if◌then◌else◌, Result, Ok, Err}
use Rattle.base_core.specs.declared.refusals.Stop.{Stop}
use Rattle.coq_syntax.specs.Tokens.{Tokens}
use Rattle.coq_syntax.specs.CommandTrees.{Command}
use Rattle.coq_syntax.specs.MoveTrees.{Move}
use Rattle.coq_syntax.specs.CommandWords.{is_command}
use Rattle.coq_syntax.specs.Answers.{told}
use Rattle.vernac_parser.specs.ParseCommand.{read_command}
use Rattle.move_parser.specs.WholeMove.{whole_move}

-- the proof move that the tokens are, or the leftmost refusal with its place
abbrev pub read_move : Tokens → Result Move Stop
read_move tokens = told tokens (whole_move tokens.items)

pub data Sentence : Type 0 where
  CommandSentence : Command → Sentence
  MoveSentence : Move → Sentence

abbrev pub read_as : {A : Type 0} → (A → Sentence) → Result A Stop → Result Sentence Stop
read_as make (Ok x) = Ok (make x)
read_as make (Err stop) = Err stop

-- the command or the proof move that the tokens are, or the leftmost refusal with its place
abbrev pub read_sentence : Tokens → Result Sentence Stop
read_sentence tokens = if is_command tokens.items then read_as CommandSentence (read_command tokens) else read_as MoveSentence (read_move tokens)

-- What the readers of proof moves answer inside.
use Rattle.std.specs.Prelude.{◌≡◌, Option, None, Some}
use Rattle.base_core.specs.declared.refusals.Stop.{Stop}
use Rattle.base_core.specs.declared.refusals.Stop.TheVariants.{Refused, NoMem}
use Rattle.coq_syntax.specs.declared.token.Token.{Token}
use Rattle.coq_syntax.specs.declared.words.TokenPlace.{TokenPlace}
use Rattle.coq_syntax.specs.Tokens.{Tokens}
use Rattle.coq_syntax.specs.Spelled.{keyword}
use Rattle.coq_syntax.specs.Refusals.{unexpected}
use Rattle.coq_syntax.specs.Answers.{next_place}
use Rattle.vernac_parser.specs.Parser.{place_of}
use Rattle.move_parser.specs.declared.move_word.MoveWord.{MoveWord}
use Rattle.move_parser.specs.MoveWords.{text_of}
use Rattle.move_parser.specs.declared.cursor.Halt.{Halt}
use Rattle.move_parser.specs.declared.cursor.Halt.TheVariants as halt

-- a halt, as it is told to callers
abbrev pub stop_of : Tokens → Halt → Stop
stop_of tokens (halt.Unexpected left) = Refused (record { code = unexpected; place = next_place tokens.period left.now })
stop_of tokens halt.NoMem = NoMem

-- the token is the word of a move; or it is none
abbrev pub IsMoveWord : Token → Option MoveWord → Type 0
IsMoveWord t (Some word) = t ≡ keyword (text_of word) (place_of t)
IsMoveWord t None = (word : MoveWord) (place : TokenPlace) → t ≡ keyword (text_of word) place → ⊥

-- The reserved word and the symbols that stand in proof moves beside their terms.
use Rattle.std.specs.Prelude.{ℕ, Bool, false, bytes_eq, codes, if◌then◌else◌, List}
use denote.Enum.Bare.{sameb}
use Rattle.coq_syntax.specs.declared.token.Token.{Token}
use Rattle.coq_syntax.specs.declared.token.TokenKind.{TokenKind}
use Rattle.coq_syntax.specs.declared.token.TokenKind.TheVariants.{Reserved, Symbol}
use Rattle.coq_syntax.specs.contracts.token.TokenKind.{the_type}
use Rattle.coq_syntax.specs.declared.words.TokenPlace.{TokenPlace}
use Rattle.coq_syntax.specs.Spelled.{token}
use Rattle.move_parser.specs.declared.mark.Mark.{Mark}
use Rattle.move_parser.specs.declared.mark.Mark.TheVariants.{As, OpenBracket, CloseBracket, Bar, Forward, Backward}

abbrev pub kind_of : Mark → TokenKind
kind_of As = Reserved
kind_of OpenBracket = Symbol
kind_of CloseBracket = Symbol
kind_of Bar = Symbol
kind_of Forward = Symbol
kind_of Backward = Symbol

abbrev pub text_of : Mark → List ℕ
text_of As = codes "as"
text_of OpenBracket = codes "["
text_of CloseBracket = codes "]"
text_of Bar = codes "|"
text_of Forward = codes "->"
text_of Backward = codes "<-"

-- the token of a mark
abbrev pub written : Mark → TokenPlace → Token
written mark place = token (kind_of mark) (text_of mark) place

abbrev pub is_mark : Mark → Token → Bool
is_mark mark t = if sameb the_type t.kind (kind_of mark) then bytes_eq t.text (text_of mark) else false

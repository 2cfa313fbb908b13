use Rattle.std.proofs.Common.{◌∙◌, sym, ap}
use denote.Enum.Bare.{same_true}
use Rattle.coq_syntax.specs.contracts.token.TokenKind.{the_type}
use Rattle.coq_syntax.specs.declared.token.TokenKind.TheVariants.{Identifier}
use Rattle.move_parser.specs.MoveWords.{word_of_text}
use Rattle.move_parser.proofs.Words.{is_move_word}
use Rattle.move_parser.proofs.parsing.move_word.Goals as goal

pub returns-then-eq : goal.returns-then-eq
returns-then-eq c =
    is_move_word c.args.token.now c.word_of_text.result (same_true the_type tt c.args.token.now.kind Identifier (sym c.eq.ensures ∙ c.if-eq.true)) (c.word_of_text.ensures ∙ ap word_of_text c.as_str.ensures)

use Rattle.std.proofs.Common.{◌∙◌, sym}
use Rattle.coq_syntax.specs.Forms.{move_of}
use Rattle.move_parser.proofs.Tokens.{heads}
use Rattle.move_parser.proofs.Words.{no_word}
use Rattle.move_parser.proofs.parsing.parse_form.Goals as goal

pub returns-in-None : goal.returns-in-None
returns-in-None c = no_word move_of c.args.tokens.now c.stop_of.result c.as_slice.result.now (λ w p rest e. c.in-None.ensures w p (heads _ _ _ _ (sym c.requires ∙ e))) c.as_slice.ensures c.stop_of.ensures

use Rattle.std.proofs.Common.{Err, ◌∙◌, length, ap, arith}
use Rattle.coq_syntax.specs.MoveTrees.{Move}
use Rattle.move_parser.proofs.Words.{no_word}
use Rattle.std.proofs.lemmas.Result.{err_from_is_err_and}
use Rattle.coq_syntax.specs.Forms.{move_of}
use Rattle.move_parser.proofs.Told.{move_given, move_refused, move_made}
use Rattle.move_parser.proofs.parsing.parse_move.Goals as goal

pub returns-in-empty-clause-parsed : goal.returns-in-empty-clause-parsed
returns-in-empty-clause-parsed c =
    no_word (λ (m : Move). m) c.args.tokens.now c.stop_of.result c.as_slice-in-empty.result.now
    (λ w p rest e. let size = ap length (c.as_slice.ensures ∙ e) in omega (arith, c.in-empty.len_below, size)) c.as_slice-in-empty.ensures c.stop_of.ensures

pub returns-in-empty-clause-value : goal.returns-in-empty-clause-value
returns-in-empty-clause-value c = move_given c.args.tokens.now (Err c.stop_of.result) (returns-in-empty-clause-parsed c)

pub returns-in_err-form-in-len1-up-clause-value : goal.returns-in_err-form-in-len1-up-clause-value
returns-in_err-form-in-len1-up-clause-value c =
    let p = err_from_is_err_and c.from_residual.result c.from_residual.ensures.1 in
    move_refused move_of c.args.tokens.now p.0 _ c.from_residual.result p.1 p.2 c.in_err-form-in-len1-up.ensures

pub returns-in_ok-form-in-len1-up-clause-value : goal.returns-in_ok-form-in-len1-up-clause-value
returns-in_ok-form-in-len1-up-clause-value c = move_made move_of c.args.tokens.now c.in_ok-form-in-len1-up.form _ c.new.ensures c.in_ok-form-in-len1-up.ensures

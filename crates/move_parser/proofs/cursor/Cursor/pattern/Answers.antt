use Rattle.std.proofs.lemmas.Result.{err_from_is_err_and}
use Rattle.coq_syntax.specs.Forms.{pattern_of}
use Rattle.move_parser.proofs.PartLaws.{keyword_halted, opening_halted, closing_halted, pattern_end_halted}
use Rattle.move_parser.proofs.cursor.Cursor.pattern.Goals as goal

pub returns-in_err-keyword : goal.returns-in_err-keyword
returns-in_err-keyword c =
    let p = err_from_is_err_and c.from_residual.result c.from_residual.ensures.1 in
    rw (p.1, p.2) (keyword_halted pattern_of c.args.self.now _ _ (λ none. let test = c.is_at_end.ensures.1 none in cc (test, c.if-is_at_end.false)) c.in_err-keyword.ensures)

pub returns-in_err-opening : goal.returns-in_err-opening
returns-in_err-opening c =
    let p = err_from_is_err_and c.from_residual-in_err-opening.result c.from_residual-in_err-opening.ensures.1 in
    rw (p.1, p.2) (opening_halted pattern_of c.args.self.now _ _ _ _ c.in_ok-keyword.ensures c.in_err-opening.ensures)

pub returns-in_err-closing : goal.returns-in_err-closing
returns-in_err-closing c =
    let p = err_from_is_err_and c.from_residual-in_err-closing.result c.from_residual-in_err-closing.ensures.1 in
    rw (p.1, p.2) (closing_halted _ _ _ _ pattern_of c.args.self.now _ _ _ _ _ _ c.in_ok-keyword.ensures c.in_ok-opening.ensures c.in_ok-first.ensures c.in_ok-others.ensures c.in_err-closing.ensures)

pub returns-in_err-end : goal.returns-in_err-end
returns-in_err-end c =
    let p = err_from_is_err_and c.from_residual-in_err-end.result c.from_residual-in_err-end.ensures.1 in
    rw (p.1, p.2) (pattern_end_halted _ _ _ _ pattern_of c.args.self.now _ _ _ _ _ _ _ c.in_ok-keyword.ensures c.in_ok-opening.ensures c.in_ok-first.ensures c.in_ok-others.ensures c.in_ok-closing.ensures c.in_err-end.ensures)

use Rattle.std.proofs.lemmas.Result.{err_from_is_err_and}
use Rattle.coq_syntax.specs.declared.words.Word.{Word}
use Rattle.move_parser.proofs.PartLaws.{identifier_halted, identifier_end_halted}
use Rattle.move_parser.proofs.cursor.Cursor.last_identifier.Goals as goal

pub returns-in_err-word : goal.returns-in_err-word
returns-in_err-word c =
    let p = err_from_is_err_and c.from_residual.result c.from_residual.ensures.1 in
    rw (p.1, p.2) (identifier_halted (λ (x : Word). x) c.args.self.now _ _ c.in_err-word.ensures)

pub returns-in_err-end : goal.returns-in_err-end
returns-in_err-end c =
    let p = err_from_is_err_and c.from_residual-in_err-end.result c.from_residual-in_err-end.ensures.1 in
    rw (p.1, p.2) (identifier_end_halted (λ (x : Word). x) c.args.self.now _ _ _ c.in_ok-word.ensures c.in_err-end.ensures)

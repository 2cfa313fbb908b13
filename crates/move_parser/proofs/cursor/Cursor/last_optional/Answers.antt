use Rattle.std.proofs.Common.{Option}
use Rattle.std.proofs.lemmas.Result.{err_from_is_err_and}
use Rattle.coq_syntax.specs.declared.words.Word.{Word}
use Rattle.move_parser.proofs.PartLaws.{some_end_halted, none_end_halted}
use Rattle.move_parser.proofs.cursor.Cursor.last_optional.Goals as goal

pub returns-in_err-end-in-Some : goal.returns-in_err-end-in-Some
returns-in_err-end-in-Some c =
    let p = err_from_is_err_and c.from_residual-in_err-end-in-Some.result c.from_residual-in_err-end-in-Some.ensures.1 in
    rw (p.1, p.2) (some_end_halted (λ (x : Option Word). x) c.args.self.now c.word.new.self c.in-Some.word _ (rw c.in-Some.is at c.in_ok-word.ensures) c.in_err-end-in-Some.ensures)

pub returns-in_err-end-in-None : goal.returns-in_err-end-in-None
returns-in_err-end-in-None c =
    let p = err_from_is_err_and c.from_residual-in_err-end-in-None.result c.from_residual-in_err-end-in-None.ensures.1 in
    let rest = rw c.in-None.is at c.in_ok-word.ensures in
    rw (p.1, p.2) (none_end_halted (λ (x : Option Word). x) c.args.self.now c.word.new.self _ rest.0 rest.1 c.in_err-end-in-None.ensures)

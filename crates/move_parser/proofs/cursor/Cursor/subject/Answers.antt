use Rattle.std.proofs.Common.{Option}
use Rattle.std.proofs.lemmas.Result.{err_from_is_err_and}
use Rattle.coq_syntax.specs.declared.words.Word.{Word}
use Rattle.coq_syntax.specs.declared.moves.Pattern.{Pattern}
use Rattle.coq_syntax.specs.Forms.{pattern_of}
use Rattle.move_parser.proofs.PartLaws.{subject_halted, subject_pattern_halted}
use Rattle.move_parser.proofs.cursor.Cursor.subject.Goals as goal

pub returns-in_err-word : goal.returns-in_err-word
returns-in_err-word c =
    let p = err_from_is_err_and c.from_residual.result c.from_residual.ensures.1 in
    rw (p.1, p.2) (subject_halted (λ (s : Word × Option Pattern). (s.0, pattern_of s.1)) c.args.self.now _ _ c.in_err-word.ensures)

pub returns-in_err-pattern : goal.returns-in_err-pattern
returns-in_err-pattern c =
    let p = err_from_is_err_and c.from_residual-in_err-pattern.result c.from_residual-in_err-pattern.ensures.1 in
    rw (p.1, p.2) (subject_pattern_halted pattern_of (λ (s : Word × Option Pattern). (s.0, pattern_of s.1)) c.args.self.now _ _ _ c.in_ok-word.ensures c.in_err-pattern.ensures)

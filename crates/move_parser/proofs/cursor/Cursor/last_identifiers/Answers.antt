use Rattle.std.proofs.Common.{◌++◌, Vec, Global, sym, ◌∙◌, ap}
use Rattle.std.proofs.lemmas.Result.{err_from_is_err_and}
use Rattle.coq_syntax.specs.declared.words.Word.{Word}
use Rattle.coq_syntax.specs.Spelled.{identifier}
use Rattle.coq_syntax.specs.Moves.{identifiers}
use Rattle.move_parser.proofs.Turns.{identifiers-append}
use Rattle.move_parser.proofs.PartLaws.{identifiers_end_halted, untaken}
use Rattle.move_parser.proofs.cursor.Cursor.last_identifiers.Goals as goal

pub loop-words-preserved : goal.loop-words-preserved
loop-words-preserved c =
    rw c.in_ok-push.ensures.items (c.loop-words.invariant ∙ ap (λ i. identifiers c.loop-words.words.items ++ i) (rw c.in-Some.is at c.in_ok-word.ensures) ∙ sym (identifiers-append c.loop-words.words.items c.in-Some.word c.word.new.self))

pub returns-in_err-end : goal.returns-in_err-end
returns-in_err-end c =
    let p = err_from_is_err_and c.from_residual-in_err-end.result c.from_residual-in_err-end.ensures.1 in
    let rest = untaken identifier c.loop-words.self c.word.new.self c.in_ok-word.field-0 c.in_default.not-Some c.in_ok-word.ensures in
    rw (p.1, p.2) (identifiers_end_halted (λ (v : Vec Word Global). v.items) c.args.self.now c.loop-words.self c.word.new.self c.loop-words.words.items _ c.loop-words.invariant rest.0 rest.1 c.in_err-end.ensures)

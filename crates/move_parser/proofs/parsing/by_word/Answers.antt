use Rattle.std.proofs.lemmas.Result.{err_from_is_err_and}
use Rattle.coq_syntax.specs.declared.moves.Direction.{Direction}
use Rattle.coq_syntax.specs.declared.tree.SurfaceTerm.{SurfaceTerm}
use Rattle.coq_syntax.specs.Trees.{Term}
use Rattle.coq_syntax.specs.Forms.{move_of}
use Rattle.move_parser.specs.declared.move_word.MoveWord.TheVariants.{Exact, Apply, Rewrite}
use Rattle.move_parser.proofs.Words.{word_stopped, halted}
use Rattle.move_parser.proofs.parsing.by_word.Goals as goal

pub returns-in_err-term-in-Exact : goal.returns-in_err-term-in-Exact
returns-in_err-term-in-Exact c =
    let p = err_from_is_err_and c.from_residual.result c.from_residual.ensures.1 in
    rw (p.1, p.2) (word_stopped Exact (λ (t : Term). t) move_of c.args.keyword c.args.tokens.now c.args.rest.now _ (rw c.in-Exact.is at c.requires) c.in_err-term-in-Exact.ensures)

pub returns-in_err-term-in-Apply : goal.returns-in_err-term-in-Apply
returns-in_err-term-in-Apply c =
    let p = err_from_is_err_and c.from_residual-in_err-term-in-Apply.result c.from_residual-in_err-term-in-Apply.ensures.1 in
    rw (p.1, p.2) (word_stopped Apply (λ (t : Term). t) move_of c.args.keyword c.args.tokens.now c.args.rest.now _ (rw c.in-Apply.is at c.requires) c.in_err-term-in-Apply.ensures)

pub returns-in_err-direction-in-Rewrite : goal.returns-in_err-direction-in-Rewrite
returns-in_err-direction-in-Rewrite c =
    let p = err_from_is_err_and c.from_residual-in_err-direction-in-Rewrite.result c.from_residual-in_err-direction-in-Rewrite.ensures.1 in
    rw (p.1, p.2) (word_stopped Rewrite (λ (r : Direction × SurfaceTerm). (r.0, r.1)) move_of c.args.keyword c.args.tokens.now c.args.rest.now _ (rw c.in-Rewrite.is at c.requires) c.in_err-direction-in-Rewrite.ensures)

pub returns-in-Err : goal.returns-in-Err
returns-in-Err c = halted move_of c.args.tokens.now _ c.stop_of.result c.in-Err.halt (rw c.in-Plain.is at c.requires) c.in-Err.ensures c.stop_of.ensures

use Rattle.std.proofs.Common.{subst, Err}
use Rattle.std.proofs.lemmas.Result.{err_from_is_err_and}
use Rattle.coq_syntax.specs.declared.moves.Direction.{Direction}
use Rattle.coq_syntax.specs.declared.tree.SurfaceTerm.{SurfaceTerm}
use Rattle.coq_syntax.specs.Trees.{Term}
use Rattle.coq_syntax.specs.Grammar.{IsTermOf}
use Rattle.coq_syntax.specs.Meets.{fault_of_term}
use Rattle.move_parser.specs.Parts.{IsTail}
use Rattle.move_parser.proofs.Terms.{rewriting_stopped}
use Rattle.move_parser.proofs.parsing.rewriting.Goals as goal

pub returns-in_err-term : goal.returns-in_err-term
returns-in_err-term c =
    let p = err_from_is_err_and c.from_residual.result c.from_residual.ensures.1 in
    rw (p.1, p.2) (rewriting_stopped (λ (t : Term). t) (λ (r : Direction × SurfaceTerm). (r.0, r.1)) c.args.tokens.now c.args.rest.now c.direction-direction.result c.in_err-term.field-0.0 c.requires c.direction-direction.ensures
    (subst (λ at. IsTail IsTermOf fault_of_term (λ (t : Term). t) c.args.tokens.now at (Err c.in_err-term.field-0.0)) c.term_place.ensures c.in_err-term.ensures))

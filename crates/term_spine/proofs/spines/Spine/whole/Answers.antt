use Rattle.std.proofs.Common.{◌≡◌, arith}
use Rattle.std.proofs.lemmas.Result.{err_from_is_err_and}
use Rattle.core_term.specs.Tree.{App}
use Rattle.term_spine.specs.Spine.{apply_all}
use Rattle.term_spine.proofs.SpineFacts.{whole_stop}
use Rattle.term_spine.proofs.spines.Spine.whole.Goals as goal

pub returns-in_err-whole-2 : goal.returns-in_err-whole-2
returns-in_err-whole-2 c =
    let p = err_from_is_err_and c.from_residual-in_err-whole-2.result c.from_residual-in_err-whole-2.ensures.1 in
    let same : apply_all (App c.loop-args.whole c.in-Some.first) c.in-Some.rest ≡ apply_all c.args.self.now.head c.args.self.now.args = grind arith in
    rw (p.1, p.2) (whole_stop c.in_err-whole-2.field-0.0 (App c.loop-args.whole c.in-Some.first) c.in-Some.rest _ same c.in_err-whole-2.ensures)

use Rattle.std.proofs.Common.{◌≡◌, ◌∷◌, ◌∙◌, ap, arith, subst}
use Rattle.std.proofs.lemmas.Result.{err_from_is_err_and}
use Rattle.core_term.specs.Tree.{Tree}
use Rattle.term_spine.specs.Spine.{apply_all, IsHead}
use Rattle.term_spine.proofs.SpineFacts.{spine_stop, not_applied, small_is}
use Rattle.term_spine.proofs.spines.spine_of.Goals as goal

pub returns-in_err-args : goal.returns-in_err-args
returns-in_err-args c =
    let p = err_from_is_err_and c.from_residual-in_err-args.result c.from_residual-in_err-args.ensures.1 in
    let same : apply_all c.in_ok-next.next (c.in_ok-first.first ∷ c.loop-function.args) ≡ apply_all c.args.function c.args.args = grind arith in
    rw (p.1, p.2) (spine_stop c.in_err-args.field-0.0 c.in_ok-next.next (c.in_ok-first.first ∷ c.loop-function.args) _ same c.in_err-args.ensures)

pub returns : goal.returns
returns c =
    let P : Tree → Type 0 = λ t. IsHead t in
    record {
      whole = c.loop-function.invariant ∙ ap (λ args. apply_all c.args.function args) c.args-2.view_is;
      small = small_is _ _ c.is_too_large.ensures c.if-is_too_large.false;
      head = subst P c.node.ensures.top (not_applied c.node.result.now c.in_default.not-App);
    }

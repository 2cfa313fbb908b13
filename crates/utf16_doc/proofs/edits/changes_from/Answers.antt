use Rattle.std.proofs.Common.{◌∙◌, sym, ap, subst, drop, ◌+◌}
use Rattle.std.proofs.lemmas.Result.{err_from_is_err_and}
use Rattle.utf16_doc.specs.Edits.{changes_from, GivesEdit}
use Rattle.utf16_doc.proofs.Changing.{next_made, next_halts, none_left}
use Rattle.utf16_doc.proofs.edits.changes_from.Goals as goal

pub returns-in_err-edited : goal.returns-in_err-edited
returns-in_err-edited c =
    let p = err_from_is_err_and c.from_residual.result c.from_residual.ensures.1 in
    subst (λ o. GivesEdit o c.from_residual.result) c.loop-change.invariant
    (next_halts c.args.encoding _ c.args.changes.now c.loop-change.change-index c.change-item.result p.0 _ c.from_residual.result p.1 p.2 c.loop-change-test.true c.change-item.is c.in_err-edited.ensures)

pub loop-change-preserved : goal.loop-change-preserved
loop-change-preserved c =
    ap (λ n. changes_from c.args.encoding (record { text = c.in_ok-edited.edited; first = n }) (drop (c.loop-change.change-index + 1) c.args.changes.now)) c.min-first.ensures
    ∙ sym (next_made c.args.encoding _ c.args.changes.now c.loop-change.change-index c.change-item.result (record { text = c.in_ok-edited.edited; first = c.in_ok-edited.start }) c.loop-change-test.true c.change-item.is c.in_ok-edited.ensures)
    ∙ c.loop-change.invariant

pub returns : goal.returns
returns c = sym c.loop-change.invariant ∙ none_left c.args.encoding _ c.args.changes.now c.loop-change.change-index c.loop-change-test.false

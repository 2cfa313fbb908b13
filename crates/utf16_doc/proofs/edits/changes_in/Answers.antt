use Rattle.std.proofs.Common.{◌∷◌, arith, ap, length}
use Rattle.std.proofs.lemmas.Result.{err_from_is_err_and}
use Rattle.utf16_doc.proofs.Alike.{given_alike, given_within}
use Rattle.utf16_doc.proofs.Changing.{first_halts, first_taken}
use Rattle.utf16_doc.proofs.edits.changes_in.Goals as goal

pub returns-in_err-edited-clause-edited : goal.returns-in_err-edited-clause-edited
returns-in_err-edited-clause-edited c =
    let p = err_from_is_err_and c.from_residual.result c.from_residual.ensures.1 in
    first_halts c.args.encoding (record { text = c.args.text.now; first = length c.args.text.now }) c.args.change.now c.args.others.now p.0 _ c.from_residual.result p.1 p.2 c.in_err-edited.ensures

pub returns-clause-edited : goal.returns-clause-edited
returns-clause-edited c =
    first_taken c.args.encoding (record { text = c.args.text.now; first = length c.args.text.now }) c.args.change.now c.args.others.now (record { text = c.in_ok-edited.edited; first = c.in_ok-edited.start }) c.min-first.result c.changes_from.result
    c.in_ok-edited.ensures (omega (arith, c.min-first.ensures, ap length c.as_str.ensures.text)) c.changes_from.ensures

pub returns-clause-alike : goal.returns-clause-alike
returns-clause-alike c = given_alike c.args.encoding c.args.text.now (c.args.change.now ∷ c.args.others.now) c.changes_from.result (returns-clause-edited c)

pub returns-clause-within : goal.returns-clause-within
returns-clause-within c = given_within c.args.encoding c.args.text.now (c.args.change.now ∷ c.args.others.now) c.changes_from.result (returns-clause-edited c)

use Rattle.std.proofs.Common.{rules, sym, subst}
use Rattle.doc_check.specs.Stands.{Follows}
use Rattle.doc_check.proofs.Advancing.{nothing_follows, stands_from}
use Rattle.doc_check.proofs.document.DocCheck.new.Goals as goal

pub returns-in_err-take_kept-clause-stands : goal.returns-in_err-take_kept-clause-stands
returns-in_err-take_kept-clause-stands g c = λ prefix fits.
    let now = c.take_kept.ensures.stands prefix fits (subst (Follows prefix c.args.table.now.given) (sym c.in_ok-check.ensures) (nothing_follows prefix c.args.table.now.given c.args.text)) in
    (now.0, search rules)

pub returns-clause-stands : goal.returns-clause-stands
returns-clause-stands g c = λ prefix fits.
    let p = g.P.Prover in
    stands_from p.meaning p.means prefix c.args.table.now c.take_kept.new.table c.in_ok-check.check c.in_ok-check.check c.take_kept.new.self (λ f. f)
    c.take_kept.ensures.stands c.take_kept.ensures.rows fits
    (subst (Follows prefix c.args.table.now.given) (sym c.in_ok-check.ensures) (nothing_follows prefix c.args.table.now.given c.args.text))

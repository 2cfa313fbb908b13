use Rattle.std.proofs.Common.{sym, subst}
use Rattle.doc_check.specs.Stands.{Follows}
use Rattle.doc_check.proofs.Advancing.{changed_follows, changed_stands, stands_from}
use Rattle.doc_check.proofs.document.DocCheck.set_text.Goals as goal

pub take_kept-requires : goal.take_kept-requires
take_kept-requires g c =
    let p = g.P.Prover in
    record { stands = changed_stands p.meaning p.means c.args.table.now c.args.text c.args.self.now c.change.new.self c.in_ok-change.ensures.new c.requires.stands }

pub returns-clause-stands : goal.returns-clause-stands
returns-clause-stands g c = λ prefix fits follows.
    let p = g.P.Prover in
    stands_from p.meaning p.means prefix c.args.table.now c.take_kept.new.table c.args.self.now c.change.new.self c.take_kept.new.self
    (λ f. subst (Follows prefix c.args.table.now.given) (sym c.in_ok-change.ensures.new) (changed_follows prefix c.args.table.now.given c.args.text c.args.self.now f))
    c.take_kept.ensures.stands c.take_kept.ensures.rows fits follows

use Rattle.std.proofs.Common.{rules}
use Rattle.doc_check.proofs.Taking.{look_held, look_stands, take_stands, take_same}
use Rattle.doc_check.proofs.document.DocCheck.take_one.Goals as goal

pub take_number-requires-clause-held : goal.take_number-requires-clause-held
take_number-requires-clause-held g c =
    let p = g.P.Prover in
    look_held p.meaning p.means c.args.table.now c.look.new.self c.args.self.now c.in_ok-key.key c.look.result c.in-Some.number
    c.in_ok-key.ensures c.look.ensures.number c.in-Some.is c.look.ensures.touched c.requires.stands

pub returns-in_err-take_number-in-Some-clause-stands : goal.returns-in_err-take_number-in-Some-clause-stands
returns-in_err-take_number-in-Some-clause-stands g c = λ prefix fits follows.
    let p = g.P.Prover in
    look_stands p.meaning p.means prefix c.args.table.now c.look.new.self c.args.self.now c.take_number.new.self c.in_ok-key.key
    c.look.ensures.touched c.in_err-take_number-in-Some.ensures.unchanged fits follows

pub returns-in-Some-clause-same : goal.returns-in-Some-clause-same
returns-in-Some-clause-same g c =
    let p = g.P.Prover in
    take_same p.meaning p.means c.args.table.now c.look.new.self c.args.self.now c.take_number.new.self c.in_ok-key.key c.look.result c.in-Some.number
    c.in_ok-key.ensures c.look.ensures.number c.in-Some.is c.look.ensures.touched (search rules) c.in_ok-take_number-in-Some.ensures.new

pub returns-in-Some-clause-stands : goal.returns-in-Some-clause-stands
returns-in-Some-clause-stands g c = λ prefix fits follows.
    let p = g.P.Prover in
    take_stands p.meaning p.means prefix c.args.table.now c.look.new.self c.args.self.now c.take_number.new.self c.in_ok-key.key c.look.result c.in-Some.number
    c.in_ok-key.ensures c.look.ensures.number c.in-Some.is c.look.ensures.touched (search rules) c.in_ok-take_number-in-Some.ensures.new fits follows

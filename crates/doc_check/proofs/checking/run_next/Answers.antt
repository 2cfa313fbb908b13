use Rattle.std.proofs.Common.{ap, ◌∙◌, Ok}
use Rattle.doc_check.proofs.Whole.{not_ended, went_on, work_done, work_broken}
use Rattle.doc_check.proofs.checking.run_next.Goals as goal

pub unreachable-requires : goal.unreachable-requires
unreachable-requires g c =
    let p = g.P.Prover in
    not_ended p.meaning p.means g.met.P.Prover.bounded c.args.table.now c.advance.new.table c.args.check.now c.advance.new.self c.requires.way c.requires.left
    c.advance.result c.advance.ensures.advances (c.in-Ok-Ended.is ∙ ap Ok c.in-Ok-Ended.field-0-is)

pub returns-in-Ok-Finished-clause-way : goal.returns-in-Ok-Finished-clause-way
returns-in-Ok-Finished-clause-way g c =
    let p = g.P.Prover in
    (went_on p.meaning p.means g.met.P.Prover.bounded c.args.table.now c.advance.new.table c.args.check.now c.advance.new.self c.requires.way c.requires.left
    c.advance.result c.advance.ensures.advances _ (c.in-Ok-Finished.is ∙ ap Ok c.in-Ok-Finished.field-0-is) c.advance.ensures.moved).0

pub returns-in-Ok-Finished-clause-next : goal.returns-in-Ok-Finished-clause-next
returns-in-Ok-Finished-clause-next g c =
    let p = g.P.Prover in
    (went_on p.meaning p.means g.met.P.Prover.bounded c.args.table.now c.advance.new.table c.args.check.now c.advance.new.self c.requires.way c.requires.left
    c.advance.result c.advance.ensures.advances _ (c.in-Ok-Finished.is ∙ ap Ok c.in-Ok-Finished.field-0-is) c.advance.ensures.moved).1

pub returns-in-Ok-Finished-clause-work : goal.returns-in-Ok-Finished-clause-work
returns-in-Ok-Finished-clause-work g c =
    let p = g.P.Prover in
    work_done p.meaning p.means g.met.P.Prover.bounded c.args.table.now c.advance.new.table c.args.check.now c.advance.new.self c.requires.way c.requires.left
    c.advance.result c.advance.ensures.advances c.args.steps.now c.advance.new.steps _ c.in-Ok-Finished.is c.advance.ensures.work

pub returns-in-Err-clause-work : goal.returns-in-Err-clause-work
returns-in-Err-clause-work g c =
    let p = g.P.Prover in
    work_broken p.meaning p.means g.met.P.Prover.bounded c.args.table.now c.advance.new.table c.args.check.now c.advance.new.self c.requires.way c.requires.left
    c.advance.result c.advance.ensures.advances c.args.steps.now c.advance.new.steps _ c.in-Err.is c.advance.ensures.work

use Rattle.std.proofs.lemmas.Result.{err_from_is_err_and}
use Rattle.sched_core.proofs.Spending.{run_ended, run_finished, run_broken}
use Rattle.sched_core.proofs.open_document.OpenDocument.run_next.Goals as goal

pub returns-in_err-advance-clause-work : goal.returns-in_err-advance-clause-work
returns-in_err-advance-clause-work g c =
    let p = g.P.Prover in
    let made = err_from_is_err_and c.from_residual.result c.from_residual.ensures.1 in
    let due = run_broken p.meaning p.means c.args.table.now c.args.self.now _ c.args.steps.now c.advance.new.steps c.in_err-advance.ensures.work.0 c.in_err-advance.ensures.work.1 in
    rw made.1 due

pub returns-in-Ended-clause-comes : goal.returns-in-Ended-clause-comes
returns-in-Ended-clause-comes g c =
    let p = g.P.Prover in
    let told = c.in_ok-advance.ensures in
    let has = run_ended p.meaning p.means c.args.table.now c.advance.new.table c.args.self.now c.advance.new.self c.in_ok-advance.field-0 _ c.args.steps.now c.advance.new.steps c.in-Ended.is told.advances told.same told.work in
    (has.new_is, has.held)

pub returns-in-Ended-clause-work : goal.returns-in-Ended-clause-work
returns-in-Ended-clause-work g c =
    let p = g.P.Prover in
    let told = c.in_ok-advance.ensures in
    (run_ended p.meaning p.means c.args.table.now c.advance.new.table c.args.self.now c.advance.new.self c.in_ok-advance.field-0 _ c.args.steps.now c.advance.new.steps c.in-Ended.is told.advances told.same told.work).work

pub returns-in-Finished-clause-comes : goal.returns-in-Finished-clause-comes
returns-in-Finished-clause-comes g c =
    let p = g.P.Prover in
    let told = c.in_ok-advance.ensures in
    let has = run_finished p.meaning p.means c.args.table.now c.advance.new.table c.args.self.now c.advance.new.self c.in_ok-advance.field-0 _ _ c.args.steps.now c.advance.new.steps c.in-Finished.is told.advances told.same told.work in
    (has.new_is, has.held)

pub returns-in-Finished-clause-work : goal.returns-in-Finished-clause-work
returns-in-Finished-clause-work g c =
    let p = g.P.Prover in
    let told = c.in_ok-advance.ensures in
    (run_finished p.meaning p.means c.args.table.now c.advance.new.table c.args.self.now c.advance.new.self c.in_ok-advance.field-0 _ _ c.args.steps.now c.advance.new.steps c.in-Finished.is told.advances told.same told.work).work

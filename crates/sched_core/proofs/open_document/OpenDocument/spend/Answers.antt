use Rattle.std.proofs.lemmas.Result.{err_from_is_err_and}
use Rattle.sched_core.proofs.Spending.{went_on, ended_there, stopped_there, broken_there, fewer_left}
use Rattle.sched_core.proofs.open_document.OpenDocument.spend.Goals as goal

pub returns-in_err-spent-clause-work : goal.returns-in_err-spent-clause-work
returns-in_err-spent-clause-work g c =
    let p = g.P.Prover in
    let l = c.loop-spent in
    let made = err_from_is_err_and c.from_residual.result c.from_residual.ensures.1 in
    let due =
    broken_there p.meaning p.means c.args.units l.left c.args.table.now l.table c.advance.new.table c.args.self.now l.self c.advance.new.self c.args.steps.now l.steps c.advance.new.steps
    c.in_err-spent.ensures.work.0 c.in_err-spent.ensures.work.1 l.invariant in
    rw made.1 due

pub loop-spent-smaller : goal.loop-spent-smaller
loop-spent-smaller g c =
    let p = g.P.Prover in
    let l = c.loop-spent in
    fewer_left p.meaning p.means l.left c.in-Finished.spent l.table c.advance.new.table l.self c.advance.new.self c.in_ok-spent.field-0 c.in-Finished.is c.in_ok-spent.ensures.advances

pub loop-spent-preserved : goal.loop-spent-preserved
loop-spent-preserved g c =
    let p = g.P.Prover in
    let l = c.loop-spent in
    went_on p.meaning p.means c.args.units l.left c.in-Finished.spent c.args.table.now l.table c.advance.new.table c.args.self.now l.self c.advance.new.self c.in_ok-spent.field-0 c.args.steps.now l.steps c.advance.new.steps
    c.in-Finished.is c.in_ok-spent.ensures.advances c.in_ok-spent.ensures.same c.in_ok-spent.ensures.carries c.in_ok-spent.ensures.work l.invariant

pub returns-in-Ended-clause-comes : goal.returns-in-Ended-clause-comes
returns-in-Ended-clause-comes g c =
    let p = g.P.Prover in
    let l = c.loop-spent in
    let there =
    ended_there p.meaning p.means c.args.units l.left c.args.table.now l.table c.advance.new.table c.args.self.now l.self c.advance.new.self c.in_ok-spent.field-0 c.args.steps.now l.steps c.advance.new.steps
    c.in-Ended.is c.in_ok-spent.ensures.advances c.in_ok-spent.ensures.same c.in_ok-spent.ensures.carries c.in_ok-spent.ensures.work l.invariant in
    (there.new, there.held)

pub returns-in-Ended-clause-work : goal.returns-in-Ended-clause-work
returns-in-Ended-clause-work g c =
    let p = g.P.Prover in
    let l = c.loop-spent in
    (ended_there p.meaning p.means c.args.units l.left c.args.table.now l.table c.advance.new.table c.args.self.now l.self c.advance.new.self c.in_ok-spent.field-0 c.args.steps.now l.steps c.advance.new.steps
    c.in-Ended.is c.in_ok-spent.ensures.advances c.in_ok-spent.ensures.same c.in_ok-spent.ensures.carries c.in_ok-spent.ensures.work l.invariant).work

pub returns-in-Interrupted-clause-comes : goal.returns-in-Interrupted-clause-comes
returns-in-Interrupted-clause-comes g c =
    let p = g.P.Prover in
    let l = c.loop-spent in
    let there =
    stopped_there p.meaning p.means c.args.units l.left c.args.table.now l.table c.advance.new.table c.args.self.now l.self c.advance.new.self c.in_ok-spent.field-0 c.args.steps.now l.steps c.advance.new.steps
    c.in-Interrupted.is c.in_ok-spent.ensures.advances c.in_ok-spent.ensures.same c.in_ok-spent.ensures.carries c.in_ok-spent.ensures.work l.invariant in
    (there.new, there.held)

pub returns-in-Interrupted-clause-work : goal.returns-in-Interrupted-clause-work
returns-in-Interrupted-clause-work g c =
    let p = g.P.Prover in
    let l = c.loop-spent in
    (stopped_there p.meaning p.means c.args.units l.left c.args.table.now l.table c.advance.new.table c.args.self.now l.self c.advance.new.self c.in_ok-spent.field-0 c.args.steps.now l.steps c.advance.new.steps
    c.in-Interrupted.is c.in_ok-spent.ensures.advances c.in_ok-spent.ensures.same c.in_ok-spent.ensures.carries c.in_ok-spent.ensures.work l.invariant).work

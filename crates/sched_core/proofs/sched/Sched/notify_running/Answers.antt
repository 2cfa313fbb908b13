use Rattle.std.proofs.Common.{rules, subst, sym}
use Rattle.prover_iface.specs.Exec.{Worked}
use Rattle.doc_check.specs.Check.{views}
use Rattle.sched_core.proofs.Made.{did_open_made, did_change_made, did_close_made, granted_made, grant_is}
use Rattle.sched_core.proofs.sched.Sched.notify_running.Goals as goal

pub returns-in-DidOpen-clause-made : goal.returns-in-DidOpen-clause-made
returns-in-DidOpen-clause-made g c =
    let told = c.in-DidOpen in
    did_open_made (views g.P.Prover.means) c.args.self.now c.args.note told.uri told.version told.text told.uri _ told.text c.open.result c.open.new.self
    told.is (search rules) (search rules) (search rules) c.open.ensures

pub returns-in-DidChange-clause-made : goal.returns-in-DidChange-clause-made
returns-in-DidChange-clause-made g c =
    let told = c.in-DidChange in
    did_change_made (views g.P.Prover.means) c.args.self.now c.args.note told.uri told.version told.changes c.as_str.result.now _ told.changes c.change.result c.change.new.self
    told.is (search rules) (search rules) (search rules) c.change.ensures

pub returns-in-DidClose-clause-made : goal.returns-in-DidClose-clause-made
returns-in-DidClose-clause-made g c =
    let told = c.in-DidClose in
    did_close_made (views g.P.Prover.means) c.args.self.now c.args.note told.uri c.as_str-in-DidClose.result.now c.close.result c.close.new.self
    told.is (search rules) c.close.ensures

pub returns-in-Grant-clause-made : goal.returns-in-Grant-clause-made
returns-in-Grant-clause-made g c =
    let told = c.in-Grant in
    granted_made (views g.P.Prover.means) c.args.self.now c.args.note told.uri told.units c.as_str-in-Grant.result.now c.notify_grant.result c.notify_grant.new.self
    told.is (search rules) c.notify_grant.ensures.made

pub returns-in-Grant-clause-work : goal.returns-in-Grant-clause-work
returns-in-Grant-clause-work g c =
    let told = c.in-Grant in
    subst (λ s. Worked s.work c.args.steps.now c.notify_grant.new.steps c.notify_grant.result)
    (sym (grant_is (views g.P.Prover.means) c.args.self.now c.args.note told.uri told.units c.as_str-in-Grant.result.now told.is (search rules))) c.notify_grant.ensures.work

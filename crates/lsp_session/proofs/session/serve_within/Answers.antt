use Rattle.std.proofs.Common.{refl, lit<, subst, sym, ◌+◌, rules}
use Rattle.doc_check.specs.Check.{views}
use Rattle.lsp_session.specs.Status.{IsStatus}
use Rattle.lsp_session.specs.Served.{SessionServes}
use Rattle.lsp_session.proofs.Begun.{session_serves, unbegun}
use Rattle.lsp_session.proofs.ServedLemmas.{served_sessions_have_causes}
use Rattle.lsp_session.proofs.session.serve_within.Goals as goal

pub returns-in-Ok-clause-serves : goal.returns-in-Ok-clause-serves
returns-in-Ok-clause-serves g c =
    session_serves g.P.Prover.means c.args.paced c.args.limit c.conduct.result c.args.steps.now c.new.new.steps c.conduct.new.steps c.in-Ok.sched c.conduct.new.machine.sched
    (g.S.Sink.written c.args.out.now) (g.S.Sink.written c.conduct.new.out) (g.L.Link.polls c.args.link.now) (g.L.Link.polls c.conduct.new.link)
    c.in-Ok.ensures.begun c.in-Ok.ensures.work c.conduct.ensures.whole c.conduct.ensures.cut

pub returns-in-Ok-clause-causes : goal.returns-in-Ok-clause-causes
returns-in-Ok-clause-causes g c =
    let means = g.P.Prover.means in
    λ a b. served_sessions_have_causes (views means) c.args.paced c.args.limit c.conduct.result (c.args.steps.now + means.first_cost) c.conduct.new.steps
    (g.S.Sink.written c.args.out.now) (g.S.Sink.written c.conduct.new.out) (g.L.Link.polls c.args.link.now) (g.L.Link.polls c.conduct.new.link)
    ((session_serves g.P.Prover.means c.args.paced c.args.limit c.conduct.result c.args.steps.now c.new.new.steps c.conduct.new.steps c.in-Ok.sched c.conduct.new.machine.sched
    (g.S.Sink.written c.args.out.now) (g.S.Sink.written c.conduct.new.out) (g.L.Link.polls c.args.link.now) (g.L.Link.polls c.conduct.new.link)
    c.in-Ok.ensures.begun c.in-Ok.ensures.work c.conduct.ensures.whole c.conduct.ensures.cut).whole a b)

pub returns-in-Err-clause-serves : goal.returns-in-Err-clause-serves
returns-in-Err-clause-serves g c =
    let means = g.P.Prover.means in
    let told = g.S.Sink.written c.args.out.now in
    let old = g.L.Link.polls c.args.link.now in
    subst (λ n. SessionServes means c.args.paced c.args.limit n c.args.steps.now c.new.new.steps told told old old) (sym c.number.ensures)
    (unbegun means c.args.paced c.args.limit c.args.steps.now c.new.new.steps told old (search rules))

pub returns-in-Err-clause-known : goal.returns-in-Err-clause-known
returns-in-Err-clause-known g c = subst IsStatus (sym c.number.ensures) (3, lit< tt, refl)

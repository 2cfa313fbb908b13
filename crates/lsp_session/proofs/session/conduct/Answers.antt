use Rattle.lsp_session.specs.Rules.{counted, counting}
use Rattle.lsp_session.proofs.Begun.{ends_by_status, breaks_by_status, calm_end, calm_put}
use Rattle.lsp_session.proofs.session.conduct.Goals as goal

pub returns-clause-whole : goal.returns-clause-whole
returns-clause-whole g c =
    let m = g.M.Machine in
    let t = c.take_turns.new in
    ends_by_status (counting m.rules) c.args.limit (counted (m.plain c.args.machine.now) c.args.steps.now) c.take_turns.result c.number.result (counted (m.plain t.machine) t.steps)
    (g.S.Sink.written c.args.out.now) (g.S.Sink.written t.out) (g.L.Link.polls c.args.link.now) (g.L.Link.polls t.link) c.number.ensures.value c.take_turns.ensures.serves

pub returns-clause-cut : goal.returns-clause-cut
returns-clause-cut g c =
    let m = g.M.Machine in
    let t = c.take_turns.new in
    breaks_by_status (counting m.rules) c.args.limit (counted (m.plain c.args.machine.now) c.args.steps.now) c.take_turns.result c.number.result (counted (m.plain t.machine) t.steps)
    (g.S.Sink.written c.args.out.now) (g.S.Sink.written t.out) (g.L.Link.polls c.args.link.now) (g.L.Link.polls t.link) c.number.ensures.value c.take_turns.ensures.serves

pub returns-clause-polled : goal.returns-clause-polled
returns-clause-polled g c = calm_end c.take_turns.result c.number.result _ _ c.number.ensures.value c.take_turns.ensures.polled

pub returns-clause-put : goal.returns-clause-put
returns-clause-put g c = calm_put c.take_turns.result c.number.result _ _ c.number.ensures.value c.take_turns.ensures.calm

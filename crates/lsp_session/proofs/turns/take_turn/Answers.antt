use Rattle.std.proofs.Common.{◌≤◌, ◌+◌, take, arith}
use Rattle.lsp_session.specs.Rules.{counted, counting}
use Rattle.lsp_session.specs.Run.{most_asked}
use Rattle.lsp_session.proofs.Heard.{counting_mounts}
use Rattle.lsp_session.proofs.Turned.{turned_bytes, turned_cut, turned_idle_cut, length_front}
use Rattle.lsp_session.proofs.turns.take_turn.Goals as goal

pub returns-in-Ok-clause-turns : goal.returns-in-Ok-clause-turns
returns-in-Ok-clause-turns g c =
    let m = g.M.Machine in
    let got = c.in-Got.ensures.told in
    let fits : c.in-Got.count ≤ most_asked c.args.limit c.args.taken.now = omega (arith, got.1, c.poll.auto.buf, c.requires.room) in
    turned_bytes (counting m.rules) c.args.limit (counted (m.plain c.args.machine.now) c.args.steps.now) (counted (m.plain c.take_in.new.machine) c.take_in.new.steps) c.args.reader.now.bytes c.take_in.new.reader.bytes c.args.taken.now c.in-Got.count
    (g.S.Sink.written c.args.out.now) (g.S.Sink.written c.take_in.new.out) c.waits-wait.result (take c.in-Got.count c.poll.new.buf) c.in-Ok.drained c.after_bytes.result
    (g.L.Link.polls c.args.link.now) (g.L.Link.polls c.poll.new.self)
    c.after_bytes.ensures c.requires.few c.waits-wait.ensures (length_front c.in-Got.count c.poll.new.buf got.1) fits got.2 (c.in-Ok.ensures.drains (c.args.taken.now + c.in-Got.count))

pub returns-in-Err-clause-turns : goal.returns-in-Err-clause-turns
returns-in-Err-clause-turns g c =
    let m = g.M.Machine in
    let got = c.in-Got.ensures.told in
    let fits : c.in-Got.count ≤ most_asked c.args.limit c.args.taken.now = omega (arith, got.1, c.poll.auto.buf, c.requires.room) in
    turned_cut (counting m.rules) (counting_mounts m.rules) c.args.limit (counted (m.plain c.args.machine.now) c.args.steps.now) (counted (m.plain c.take_in.new.machine) c.take_in.new.steps) c.args.reader.now.bytes c.take_in.new.reader.bytes c.args.taken.now c.in-Got.count
    (g.S.Sink.written c.args.out.now) (g.S.Sink.written c.take_in.new.out) c.waits-wait.result (take c.in-Got.count c.poll.new.buf) c.in-Err.halt
    (g.L.Link.polls c.args.link.now) (g.L.Link.polls c.poll.new.self)
    c.requires.few c.waits-wait.ensures (length_front c.in-Got.count c.poll.new.buf got.1) fits got.2 (c.in-Err.ensures.drains (c.args.taken.now + c.in-Got.count))

pub returns-in-Err-idle-clause-turns : goal.returns-in-Err-idle-clause-turns
returns-in-Err-idle-clause-turns g c =
    let m = g.M.Machine in
    turned_idle_cut (counting m.rules) (counting_mounts m.rules) c.args.limit (counted (m.plain c.args.machine.now) c.args.steps.now) (counted (m.plain c.idle.new.machine) c.idle.new.steps) c.args.reader.now.bytes c.args.taken.now
    (g.S.Sink.written c.args.out.now) (g.S.Sink.written c.idle.new.out) c.waits-wait.result c.in-Err-idle.halt
    (g.L.Link.polls c.args.link.now) (g.L.Link.polls c.poll.new.self)
    c.requires.few c.waits-wait.ensures c.in-Idle.ensures.told.0 c.in-Idle.ensures.told.1 c.in-Err-idle.ensures.does

use Rattle.std.proofs.Common.{ℕ, None, Ok, Err, ◌∙◌, arith}
use Rattle.lsp_session.specs.Rules.{counted, counting}
use Rattle.lsp_session.specs.Calls.{Goes, heard_of}
use Rattle.lsp_session.proofs.Heard.{extends_on, drains_from, next_none, next_some}
use Rattle.lsp_session.proofs.messages.drain.Goals as goal

pub loop-last-preserved : goal.loop-last-preserved
loop-last-preserved g c =
    let m = g.M.Machine in
    let rules = counting m.rules in
    let told = g.S.Sink.written c.loop-last.out in
    let now = g.S.Sink.written c.next_message.new.out in
    let start = counted (m.plain c.loop-last.machine) c.loop-last.steps in
    let state = counted (m.plain c.next_message.new.machine) c.next_message.new.steps in
    let bytes = c.next_message.new.reader.bytes in
    let goes : (taken : ℕ) → Goes (heard_of rules taken) taken (heard_of rules taken start c.loop-last.reader.bytes told) (Ok None) state bytes told now =
    λ taken. next_none rules taken (heard_of rules taken start c.loop-last.reader.bytes told) c.in-Ok-None.field-0 state bytes told now c.in-Ok-None.field-0-is (c.in-Ok-None.ensures.goes taken) in
    record {
      goes = λ taken. (goes taken).0 ∙ c.loop-last.invariant.goes taken;
      holds = extends_on _ told now c.loop-last.invariant.holds (goes 0).1;
      few = omega (arith, c.loop-last.invariant.few, c.in-Ok-None.ensures.few);
      calm = c.in-Ok-None.ensures.calm ∙ c.loop-last.invariant.calm;
    }

pub returns-in-Ok-Some-clause-drains : goal.returns-in-Ok-Some-clause-drains
returns-in-Ok-Some-clause-drains g c = λ taken.
    let m = g.M.Machine in
    let rules = counting m.rules in
    let told = g.S.Sink.written c.loop-last.out in
    let now = g.S.Sink.written c.next_message.new.out in
    let whole = heard_of rules taken (counted (m.plain c.loop-last.machine) c.loop-last.steps) c.loop-last.reader.bytes told in
    let first = heard_of rules taken (counted (m.plain c.args.machine.now) c.args.steps.now) c.args.reader.now.bytes (g.S.Sink.written c.args.out.now) in
    let state = counted (m.plain c.next_message.new.machine) c.next_message.new.steps in
    let bytes = c.next_message.new.reader.bytes in
    drains_from taken first whole (Ok c.in-Ok-Some.last) state bytes (g.S.Sink.written c.args.out.now) told now (c.loop-last.invariant.goes taken) c.loop-last.invariant.holds
    (next_some rules taken whole c.in-Ok-Some.field-0 c.in-Ok-Some.last state bytes told now c.in-Ok-Some.field-0-is (c.in-Ok-Some.ensures.goes taken))

pub returns-in-Err-clause-drains : goal.returns-in-Err-clause-drains
returns-in-Err-clause-drains g c = λ taken.
    let m = g.M.Machine in
    let rules = counting m.rules in
    let told = g.S.Sink.written c.loop-last.out in
    let now = g.S.Sink.written c.next_message.new.out in
    let whole = heard_of rules taken (counted (m.plain c.loop-last.machine) c.loop-last.steps) c.loop-last.reader.bytes told in
    let first = heard_of rules taken (counted (m.plain c.args.machine.now) c.args.steps.now) c.args.reader.now.bytes (g.S.Sink.written c.args.out.now) in
    drains_from taken first whole (Err c.in-Err.halt) (counted (m.plain c.next_message.new.machine) c.next_message.new.steps) c.next_message.new.reader.bytes (g.S.Sink.written c.args.out.now) told now (c.loop-last.invariant.goes taken) c.loop-last.invariant.holds (c.in-Err.ensures.goes taken)

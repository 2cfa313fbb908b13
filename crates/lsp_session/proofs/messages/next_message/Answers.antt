use Rattle.std.proofs.Common.{Ok, subst}
use Rattle.rpc_frames.specs.Fed.{AnswersStream}
use Rattle.lsp_session.specs.Rules.{counted, counting}
use Rattle.lsp_session.proofs.Heard.{goes_cut, cut_before, counting_mounts}
use Rattle.lsp_session.proofs.messages.next_message.Goals as goal

pub returns-in-Ok-Some-clause-goes : goal.returns-in-Ok-Some-clause-goes
returns-in-Ok-Some-clause-goes g c = λ taken.
    let m = g.M.Machine in
    goes_cut (counting m.rules) (counting_mounts m.rules) taken c.args.reader.now.bytes c.next.new.self.bytes c.in-Ok-Some.body c.as_slice.result.now (counted (m.plain c.args.machine.now) c.args.steps.now) c.hear.new.steps _ _
    (subst (λ r. AnswersStream (Ok r) c.args.reader.now.bytes c.next.new.self.bytes) c.in-Ok-Some.field-0-is c.in-Ok-Some.ensures.stream) c.as_slice.ensures c.in-Err.ensures.does

pub returns-clause-goes : goal.returns-clause-goes
returns-clause-goes g c = λ taken.
    let m = g.M.Machine in
    cut_before (counting m.rules) (counting_mounts m.rules) taken c.args.reader.now.bytes (counted (m.plain c.args.machine.now) c.args.steps.now) (g.S.Sink.written c.args.out.now)

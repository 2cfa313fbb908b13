use Rattle.std.proofs.Common.{◌++◌}
use Rattle.lsp_session.specs.Rules.{counted, counting}
use Rattle.lsp_session.proofs.Heard.{cut_before, counting_mounts}
use Rattle.lsp_session.proofs.turns.take_in.Goals as goal

pub returns-in-Err-clause-drains : goal.returns-in-Err-clause-drains
returns-in-Err-clause-drains g c = λ taken.
    let m = g.M.Machine in
    cut_before (counting m.rules) (counting_mounts m.rules) taken (c.args.reader.now.bytes ++ c.args.piece.now) (counted (m.plain c.args.machine.now) c.args.steps.now) (g.S.Sink.written c.args.out.now)
